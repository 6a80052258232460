-- The whole of a `meta` line.
use Prim.Native.Nat.{ℕ, ◌%◌}
use mathlib.Core.Path.{◌≡◌, refl, sym, ap, ◌∙◌}
use mathlib.Core.List.{List}
use Rattle.std.specs.Prelude.{Option}
use borrow.Author.Tests.{eq-eqb, ne_eqb}
use Rattle.rules.specs.Basic.{pick, on_some, word_in}
use Rattle.rules.specs.Words.{DefineMode, DuplicateMode, define_key, duplicate_key, define_words, duplicate_words}
use Rattle.rules.specs.Event as rules
use Rattle.rules.specs.Text.{text_trimmed, text_outer_trimmed}
use Rattle.rules.specs.Utf8.{chars}
use Rattle.rules.specs.Modes as modes
use Rattle.rules.specs.Modes.{has_modes, key_of, key_text, value_text}
use Rattle.rules.specs.State.{State}
use Rattle.rules.specs.Metadata.{on_define, on_duplicate, on_key, on_metadata}
use Rattle.sheet.specs.Words.{define_of, duplicate_of}
use Rattle.sheet.specs.declared.Define.{Define}
use Rattle.sheet.specs.declared.Duplicate.{Duplicate}
use Rattle.content.specs.Contents as contents
use Rattle.content.proofs.Plains.{plain_unescape}
use Rattle.parts.specs.Views.{part_of, content_in, span_in, text_in, TextWithin}
use Rattle.parts.specs.declared.TextView.{TextView}
use Rattle.config_keys.specs.Keys.{key_in}
use Rattle.config_keys.specs.declared.Key.{Key}
use Rattle.config_keys.specs.declared.Key.TheVariants as keys
use Rattle.model.specs.Blank.{blank}
use Rattle.model.specs.Memory.{Sound}
use Rattle.model.specs.declared.Held.{Held}
use Rattle.blocks.specs.Lined.{Went}
use Rattle.blocks.proofs.Lines.{went_told}
use Rattle.metadata.specs.Metas.{OrdinaryCounted, MetaDone}
use Rattle.metadata.proofs.Metas.{DefineSet, DuplicateSet, UnknownNoted}

pub text_content : (line : List ℕ) (v : TextView) → TextWithin line v → {b : List ℕ} → b ≡ part_of line v.content → contents.content_in b ≡ (text_in line v).content
unfolding text_in content_in contents.content_in
text_content line v z e = ap (λ (x : List ℕ). chars (contents.plain_of x)) e ∙ ap chars (plain_unescape (part_of line v.content) z.content.well)

text_span : (line : List ℕ) (v : TextView) → (text_in line v).span ≡ span_in v.span
unfolding text_in
text_span line v = refl

went_as : {f g : State → State} {w₀ w : List ℕ} {h₀ h : Held} → Went f w₀ h₀ w h → ((st : State) → f st ≡ g st) → Went g w₀ h₀ w h
went_as p e = record { is = λ sheet. p.is sheet ∙ ap blank (e _); sound = p.sound; fit = p.fit; writes = p.writes }

meta_is : (flags : ℕ) (k v : rules.Text) (key : modes.Key) → pick (has_modes flags) (key_of (key_text k)) modes.ordinary ≡ key → (st : State) → on_key key k v st ≡ on_metadata flags k v st
unfolding on_metadata
meta_is flags k v key e st = ap (λ (x : modes.Key). on_key x k v st) (sym e)

mode_off : (flags : ℕ) → (flags % 2 ≡ 1 → ⊥) → (x : modes.Key) → pick (has_modes flags) x modes.ordinary ≡ modes.ordinary
unfolding has_modes
mode_off flags n x = rw (ne_eqb (flags % 2) 1 n)

pub meta_off : {flags : ℕ} {line w : List ℕ} {h r : Held} {key value : TextView} → (flags % 2 ≡ 1 → ⊥) → Sound w h → OrdinaryCounted h r → MetaDone flags line key value w h w r
meta_off {flags} {line} {key = key} {value = value} n z p = record { went = went_as (went_told (p.by (text_in line key) (text_in line value)) z (λ sheet a. p.fit sheet _ a)) (meta_is flags (text_in line key) (text_in line value) modes.ordinary (mode_off flags n _)) }

pub key_at_lem : (flags : ℕ) (line : List ℕ) (key : TextView) (x y : Key) (kb : List ℕ) → flags % 2 ≡ 1 → TextWithin line key → kb ≡ part_of line key.content → key_in x ≡ key_of (text_trimmed (contents.content_in kb)) → x ≡ y
    → pick (has_modes flags) (key_of (key_text (text_in line key))) modes.ordinary ≡ key_in y
unfolding has_modes key_text
key_at_lem flags line key x y kb on kz kp g e = rw (eq-eqb (flags % 2) 1 on) (ap (λ (cs : List ℕ). key_of (text_trimmed cs)) (sym (text_content line key kz kp)) ∙ (sym g ∙ ap key_in e))

pub value_at_lem : (line : List ℕ) (value : TextView) (vb : List ℕ) → TextWithin line value → vb ≡ part_of line value.content → text_outer_trimmed (contents.content_in vb) ≡ value_text (text_in line value)
unfolding value_text
value_at_lem line value vb vz vp = ap text_outer_trimmed (text_content line value vz vp)

module _ {flags : ℕ} {line w₀ w : List ℕ} {h r : Held} {key value : TextView} (on : flags % 2 ≡ 1) (kz : TextWithin line key) (kb : List ℕ) (kp : kb ≡ part_of line key.content) (x : Key) (g : key_in x ≡ key_of (text_trimmed (contents.content_in kb))) where
  pub meta_define : TextWithin line value → (vb : List ℕ) → vb ≡ part_of line value.content → {m : Option Define} → x ≡ keys.Define → on_some define_of m ≡ word_in (text_outer_trimmed (contents.content_in vb)) define_words → DefineSet key.span value.span m w₀ h w r → MetaDone flags line key value w₀ h w r
  unfolding key_in on_key
  meta_define vz vb vp e q p =
      let k = text_in line key in
      let v = text_in line value in
      let o = q ∙ ap (λ (cs : List ℕ). word_in cs define_words) (value_at_lem line value vb vz vp) in
      record { went = went_as (p.by k v (text_span line key) (text_span line value)) (λ st. ap (λ (x : Option DefineMode). on_define k v x st) o ∙ meta_is flags k v (modes.config define_key) (key_at_lem flags line key x keys.Define kb on kz kp g e) st) }

  pub meta_duplicate : TextWithin line value → (vb : List ℕ) → vb ≡ part_of line value.content → {m : Option Duplicate} → x ≡ keys.Duplicate → on_some duplicate_of m ≡ word_in (text_outer_trimmed (contents.content_in vb)) duplicate_words → DuplicateSet key.span value.span m w₀ h w r → MetaDone flags line key value w₀ h w r
  unfolding key_in on_key
  meta_duplicate vz vb vp e q p =
      let k = text_in line key in
      let v = text_in line value in
      let o = q ∙ ap (λ (cs : List ℕ). word_in cs duplicate_words) (value_at_lem line value vb vz vp) in
      record { went = went_as (p.by k v (text_span line key) (text_span line value)) (λ st. ap (λ (x : Option DuplicateMode). on_duplicate k v x st) o ∙ meta_is flags k v (modes.config duplicate_key) (key_at_lem flags line key x keys.Duplicate kb on kz kp g e) st) }

  pub meta_unknown : x ≡ keys.Unknown → UnknownNoted key.span w₀ h w r → MetaDone flags line key value w₀ h w r
  unfolding key_in
  meta_unknown e p = record { went = went_as (p.by (text_in line key) (text_in line value) (text_span line key)) (meta_is flags (text_in line key) (text_in line value) modes.unknown_config (key_at_lem flags line key x keys.Unknown kb on kz kp g e)) }

module _ {flags : ℕ} {line w : List ℕ} {h r : Held} {key value : TextView} (on : flags % 2 ≡ 1) (kz : TextWithin line key) (kb : List ℕ) (kp : kb ≡ part_of line key.content) (x : Key) (g : key_in x ≡ key_of (text_trimmed (contents.content_in kb))) where
  pub meta_ordinary : x ≡ keys.Ordinary → Sound w h → OrdinaryCounted h r → MetaDone flags line key value w h w r
  unfolding key_in
  meta_ordinary e z p = record { went = went_as (went_told (p.by (text_in line key) (text_in line value)) z (λ sheet a. p.fit sheet _ a)) (meta_is flags (text_in line key) (text_in line value) modes.ordinary (key_at_lem flags line key x keys.Ordinary kb on kz kp g e)) }
