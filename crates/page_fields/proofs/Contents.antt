-- Contents of a line on a page: the field of a content is spelled as it stands in the line.
use Prim.Native.Nat.{ℕ}
use mathlib.Core.Path.{◌≡◌, ap, ◌∙◌}
use Rattle.std.specs.Prelude.{Option, None, Some}
use mathlib.Core.List.{List, [], ◌∷◌, ◌++◌}
use Rattle.rules.specs.Basic.{codes, tab, on_some}
use Rattle.rules.specs.Sheet.{unescape, escape_char, escape}
use Rattle.rules.specs.Utf8.{chars, encode}
use Rattle.rules.specs.Text.{text_trimmed}
use Rattle.rules.specs.Read.{content_of}
use Rattle.rules.specs.Model.{trimmed_text}
use Rattle.rules.specs.Page.{optional}
use Rattle.rules.proofs.Basics.{no_some, some_inj}
use Rattle.output.specs.Put.{Put, tabbed}
use Rattle.output.proofs.Puts.{put_seq}
use Rattle.output.proofs.Texts.{tabbed_one}
use Rattle.content.specs.Contents as content
use Rattle.content.specs.Contents.{spell}
use Rattle.content.specs.Parts.{Field}
use Rattle.content.proofs.Spells.{field_spell}
use Rattle.content.proofs.Lines.{field_content}
use Rattle.text.specs.Trims.{PutTrimmed}
use Rattle.text.proofs.Writes.{put_spelled}
use Rattle.parts.specs.declared.Part.{Part}
use Rattle.parts.specs.declared.TextView.{TextView}
use Rattle.parts.specs.Views.{part_of, or_empty, bytes_in, content_in, text_in, opt_text_in}
use Rattle.known_events.specs.Fields.{TextField, OptTextField}

content_is : (o : Option (List ℕ)) {x : List ℕ} → on_some chars o ≡ Some x → chars (or_empty o) ≡ x
unfolding on_some or_empty
content_is None e = no_some e
content_is (Some u) e = some_inj e

module _ (line : List ℕ) (p : Part) (h : Field (part_of line p)) where
  -- the content of a part that is a whole field
  pub part_content : content_in line p ≡ content.content_in (part_of line p)
  unfolding content_in bytes_in
  part_content = content_is (unescape (part_of line p)) (unfold content_of in field_content h)

  -- its field on a page is the part itself
  pub part_spelled : spell (content_in line p) ≡ part_of line p
  part_spelled = ap spell part_content ∙ field_spell h

  pub put_content : {f o₀ o₁ o₂ : List ℕ} {at n r : ℕ} → f ≡ part_of line p → Put (tab ∷ []) o₀ at o₁ n → Put f o₁ n o₂ r → Put (tabbed (encode (content_in line p) ∷ [])) o₀ at o₂ r
  put_content e x y = rw (tabbed_one (encode (content_in line p)), part_spelled, ← e) (put_seq x y)

-- ---- optional texts

-- a string after its `=`
pub field_some : (s : List ℕ) → tabbed (optional (Some s) ∷ []) ≡ (tab ∷ 61 ∷ []) ++ spell s
unfolding optional escape escape_char
field_some s = tabbed_one (61 ∷ encode s)

module _ (line : List ℕ) {o : Option TextView} where
  pub present_field : {v : TextView} → o ≡ Some v → OptTextField line o → Field (part_of line v.content)
  unfolding OptTextField TextField
  present_field {v} e h = rw e at h

  module _ {o₀ : List ℕ} {at : ℕ} where
    pub put_absent : {o₁ : List ℕ} {r : ℕ} → o ≡ None → Put (tabbed (codes "-" ∷ [])) o₀ at o₁ r → Put (tabbed (optional (on_some trimmed_text (opt_text_in line o)) ∷ [])) o₀ at o₁ r
    unfolding optional on_some opt_text_in
    put_absent e x = rw e x

    pub put_present : {v : TextView} {f o₁ o₂ : List ℕ} {n r : ℕ} → o ≡ Some v → OptTextField line o → Put (tab ∷ 61 ∷ []) o₀ at o₁ n → f ≡ part_of line v.content → PutTrimmed f o₁ n o₂ r → Put (tabbed (optional (on_some trimmed_text (opt_text_in line o)) ∷ [])) o₀ at o₂ r
    unfolding on_some opt_text_in text_in trimmed_text
    put_present {v} {f} {o₁} {o₂} {n} {r} e h x q y =
        let g = present_field e h in
        let z : Put (spell (text_trimmed (content_in line v.content))) o₁ n o₂ r = rw (part_content line v.content g, ← q) (put_spelled y (rw q g)) in
        rw (e, field_some (text_trimmed (content_in line v.content))) (put_seq x z)
