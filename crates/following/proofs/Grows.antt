-- What a line adds to each part of the page, and to the small state: blocks opened, filled and closed.
use Prim.Native.Nat.{ℕ}
use mathlib.Core.Path.{◌≡◌, refl, sym, ap, ◌∙◌}
use mathlib.Core.List.{List, [], ◌∷◌, ◌++◌, reverse_aux, append-nil, append_assoc}
use mathlib.Core.Bool.{Bool, true, false, ◌||◌, not}
use Rattle.std.specs.Prelude.{Option, None, Some}
use lib.ListN.{length}
use Rattle.rules.specs.Basic.{pick, is_empty, is_some}
use Rattle.rules.specs.Words.{DefineMode, DuplicateMode, mode_all, mode_components, mode_steps, mode_text}
use Rattle.rules.specs.Finding.{Finding}
use Rattle.rules.specs.Model.{InlineQuantity, Block}
use Rattle.rules.specs.State as state
use Rattle.rules.specs.State.{State, Metadata, Kept, Tables, no_block, set_place, set_block, set_kept}
use Rattle.rules.specs.Pass.{keep_block}
use Rattle.rules.specs.Page.{lines_onto, table_lines, block_lines, section_lines, timer_line, inline_line}
use Rattle.following.specs.declared.Follow.{Follow}
use Rattle.following.specs.Drawn.{define_in, kind_of, keeps, section_line, open_drawn, is_shown, sections_drawn, old_drawn, follow_of, lead, start_adds}
use Rattle.following.specs.Follow.{start_follow, close_follow}
use Rattle.following.proofs.Lists.{table_more}
use Rattle.sheet.specs.Words.{define_of}

-- from the state before to the one after: what follows, and what each part of the page has more
pub record Grows (st st' : State) (f : Follow) (sections timers inline old : List ℕ) (quantities : List InlineQuantity) : Type 0 where
  pub follow : follow_of st' ≡ f
  pub sections_is : sections_drawn st' ≡ sections_drawn st ++ sections
  pub timers_is : table_lines timer_line st'.tables.timers ≡ table_lines timer_line st.tables.timers ++ timers
  pub inline_is : table_lines inline_line st'.tables.inline ≡ table_lines inline_line st.tables.inline ++ inline
  pub old_is : old_drawn st' ≡ old_drawn st ++ old
  pub table_is : st'.tables.inline ≡ reverse_aux quantities st.tables.inline

-- nothing more
pub nil : {x : List ℕ} → x ≡ x ++ []
nil {x} = sym (append-nil x)

-- a state by its parts
abbrev pub made : DefineMode → DuplicateMode → Metadata → Option (List ℕ) → List Block → ℕ → state.Open → Kept → Tables → List Finding → State
made m d md name content n o k t fs =
    record {
      modes = record { define = m; duplicate = d };
      metadata = md;
      place = record { section = record { name = name; content = content }; step_counter = n; block = o };
      kept = k;
      tables = t;
      findings = fs;
    }

pub mode_back : (m : DefineMode) → define_of (define_in m) ≡ m
unfolding define_of define_in
mode_back mode_all = refl
mode_back mode_components = refl
mode_back mode_steps = refl
mode_back mode_text = refl

-- ---- regrouping

pub more_open : (a b c o x : List ℕ) → a ++ (b ++ (c ++ (o ++ x))) ≡ (a ++ (b ++ (c ++ o))) ++ x
more_open a b c o x = simp append_assoc

pub in_open : (a b c o : List ℕ) {o' : List ℕ} (x : List ℕ) → o' ≡ o ++ x → a ++ (b ++ (c ++ o')) ≡ (a ++ (b ++ (c ++ o))) ++ x
in_open a b c o x q = ap (λ (y : List ℕ). a ++ (b ++ (c ++ y))) q ∙ more_open a b c o x

-- ---- a block is opened

-- what a block has at its start
pub record Fresh (m : DefineMode) (n : ℕ) (o : state.Open) : Type 0 where
  pub is : open_drawn m n o ≡ pick (keeps (define_in m) (kind_of o)) (lead n (kind_of o)) []

picked : (c : Bool) (l : List ℕ) → pick c l [] ≡ pick c ([] ++ l) []
picked true l = refl
picked false l = refl

start_lines : (name : Option (List ℕ)) (content : List Block) (c : Bool) (a l : List ℕ)
    → a ++ (pick (is_some name || not (is_empty content) || c) (section_line name) [] ++ (table_lines block_lines content ++ pick c l []))
    ≡ (a ++ (pick (is_some name || not (is_empty content) || false) (section_line name) [] ++ (table_lines block_lines content ++ []))) ++ pick c (pick (is_some name || not (is_empty content) || false) [] (section_line None) ++ l) []
unfolding is_some is_empty
start_lines (Some s) content c a l = in_open a (section_line (Some s)) (table_lines block_lines content) [] (pick c ([] ++ l) []) (picked c l)
start_lines None (b ∷ bs) c a l = in_open a (section_line None) (table_lines block_lines (b ∷ bs)) [] (pick c ([] ++ l) []) (picked c l)
start_lines None [] true a l = unfold table_lines lines_onto in sym (ap (λ (x : List ℕ). x ++ (section_line None ++ l)) (append-nil a))
start_lines None [] false a l = nil

abbrev shown_as : Bool → Follow → Follow
shown_as b f =
    record { define = f.define; block = f.block; shown = b; counter = f.counter; ingredients = f.ingredients; cookware = f.cookware; timers = f.timers; inline = f.inline; old = f.old }

shown_start : (a c : Bool) → (a || c) ≡ (a || false || c)
shown_start true c = refl
shown_start false c = refl

-- a block that is kept, and one that was kept
shown_kept : (a b c : Bool) → c ≡ true → (a || true || false) ≡ (a || b || c)
shown_kept true b c q = refl
shown_kept false true c q = refl
shown_kept false false c q = sym q

module _ (m : DefineMode) (d : DuplicateMode) (md : Metadata) (name : Option (List ℕ)) (content : List Block) (n : ℕ) (k : Kept) (t : Tables) (fs : List Finding) where
  pub start_grows : (o : state.Open) → Fresh m n o
      → Grows (made m d md name content n no_block k t fs) (set_block o (made m d md name content n no_block k t fs))
      (start_follow (kind_of o) (follow_of (made m d md name content n no_block k t fs)))
      (start_adds (follow_of (made m d md name content n no_block k t fs)) (kind_of o)) [] [] [] []
  unfolding set_block set_place follow_of start_follow start_adds sections_drawn is_shown old_drawn kind_of keeps open_drawn
  start_grows o q =
      record {
        follow =
            ap (λ (b : Bool). shown_as b (follow_of (set_block o (made m d md name content n no_block k t fs))))
            (shown_start (is_some name || not (is_empty content)) (keeps (define_in m) (kind_of o)));
        sections_is =
            ap (λ (x : List ℕ). table_lines section_lines k.sections ++ (pick (is_some name || not (is_empty content) || keeps (define_in m) (kind_of o)) (section_line name) [] ++ (table_lines block_lines content ++ x))) q.is
            ∙ start_lines name content (keeps (define_in m) (kind_of o)) (table_lines section_lines k.sections) (lead n (kind_of o));
        timers_is = nil;
        inline_is = nil;
        old_is = nil;
        table_is = refl;
      }

  -- a block that is kept is closed: its last bytes are x
  pub keep_grows : (o : state.Open) (b : Block) (n' : ℕ) (x : List ℕ) → keeps (define_in m) (kind_of o) ≡ true → ((i : ℕ) → block_lines i b ≡ open_drawn m n o ++ x)
      → Grows (made m d md name content n o k t fs) (keep_block b n' (made m d md name content n o k t fs))
      (close_follow n' (follow_of (made m d md name content n o k t fs))) x [] [] [] []
  unfolding set_kept set_place keep_block follow_of close_follow sections_drawn is_shown old_drawn kind_of keeps open_drawn is_empty
  keep_grows o b n' x q e =
      record {
        follow = ap (λ (s : Bool). shown_as s (follow_of (keep_block b n' (made m d md name content n o k t fs)))) (shown_kept (is_some name) (not (is_empty content)) (keeps (define_in m) (kind_of o)) q);
        sections_is =
            ap (λ (s : Bool). table_lines section_lines k.sections ++ (pick s (section_line name) [] ++ (table_lines block_lines (b ∷ content) ++ []))) (shown_kept (is_some name) (not (is_empty content)) (keeps (define_in m) (kind_of o)) q)
            ∙ (ap (λ (y : List ℕ). table_lines section_lines k.sections ++ (pick (is_some name || not (is_empty content) || keeps (define_in m) (kind_of o)) (section_line name) [] ++ y)) (append-nil (table_lines block_lines (b ∷ content)) ∙ (table_more block_lines b content ∙ ap (λ (y : List ℕ). table_lines block_lines content ++ y) (e (length content))))
            ∙ more_open (table_lines section_lines k.sections) (pick (is_some name || not (is_empty content) || keeps (define_in m) (kind_of o)) (section_line name) []) (table_lines block_lines content) (open_drawn m n o) x);
        timers_is = nil;
        inline_is = nil;
        old_is = nil;
        table_is = refl;
      }
