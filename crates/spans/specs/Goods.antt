-- What is said of some spans: r is whether all of them are good.
use Rattle.std.specs.Prelude.{◌≡◌, Bool, List, ℕ, length}
use Rattle.rules.specs.Basic.{all}
use Rattle.rules.specs.Event.{Span}
use Rattle.rules.specs.Answer.{is_good_span}

pub record Goods (text : List ℕ) (spans : List Span) (r : Bool) : Type 0 where
  pub is : r ≡ all (is_good_span text (length text)) spans

-- the same of the spans of a view, whatever line its contents stand in
abbrev pub GoodsIn : List ℕ → (List ℕ → List Span) → Bool → Type 0
GoodsIn text spans r = (line : List ℕ) → Goods text (spans line) r
