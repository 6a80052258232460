-- The nine cases of document 01 ("Hollow versions") in one table; proofs/Cases.antt proves them.
use Rattle.std.specs.Prelude.{ℕ, List, [], ◌∷◌, ◌++◌}
use Rattle.rules.specs.Basic.{codes, concat}
use Rattle.rules.specs.Input.{input_of}
use Rattle.rules.specs.Answer.{collect_answer, printed, enough}

-- what is handed in, and what the collect program prints for it
pub record Case : Type 0 where
  pub sheet : List ℕ
  pub text : List ℕ
  pub units : List ℕ
  pub flags : ℕ
  pub prints : List ℕ

abbrev pub printed_for : Case → List ℕ
printed_for c = printed (collect_answer (input_of c.sheet c.text c.units c.flags) enough)

abbrev pub expected_of : Case → List ℕ
expected_of c = c.prints

-- "One page whole"
abbrev worked : Case
worked = record {
  sheet =
      concat
      (codes "meta\t3\t14\t[duplicate]\t15\t19\t ref\n" ∷ codes "start\tstep\n" ∷ codes "ingredient\t20\t27\t21\t25\tsalt\t-\t-\t-\t.\t21\t21\t-\n"
      ∷ codes "text\t27\t28\t \n" ∷ codes "ingredient\t28\t35\t29\t33\tSalt\t-\t-\t-\t.\t29\t29\t-\n" ∷ codes "end\tstep\n" ∷ []);
  text = codes ">> [duplicate]: ref\n@salt{} @Salt{}\n";
  units = [];
  flags = 1;
  prints =
      concat
      (codes "recipe\tyes\n" ∷ codes "section\t-\n" ∷ codes "step\t1\n" ∷ codes "item\tingredient\t0\n" ∷ codes "item\ttext\t \n" ∷ codes "item\tingredient\t1\n"
      ∷ codes "ingredient\t0\tsalt\t-\t-\t-\t-\t.\tdef\tstep\t1\n" ∷ codes "ingredient\t1\tSalt\t-\t-\t-\t-\t&\tref\tingredient\t0\n" ∷ []);
}

-- "an empty sheet gives `recipe|yes`; flags 7 pass, 8 is refusal 7"
abbrev empty : ℕ → List ℕ → Case
empty flags page = record { sheet = []; text = []; units = []; flags = flags; prints = page }

-- a step of one ingredient with a name
abbrev named : List ℕ → List ℕ → Case
named name line = record {
  sheet = codes "start\tstep\ningredient\t0\t1\t0\t1\t" ++ name ++ codes "\t-\t-\t-\t.\t0\t0\t-\nend\tstep\n";
  text = codes "abc";
  units = [];
  flags = 0;
  prints = codes "recipe\tyes\nsection\t-\nstep\t1\nitem\tingredient\t0\n" ++ line;
}

-- a step of one text, with inline quantities and the unit kg
abbrev inlined : List ℕ → List ℕ → Case
inlined content lines = record {
  sheet = codes "start\tstep\ntext\t0\t1\t" ++ content ++ codes "\nend\tstep\n";
  text = codes "abc";
  units = codes "kg\tmass\n";
  flags = 2;
  prints = codes "recipe\tyes\nsection\t-\nstep\t1\n" ++ lines;
}

abbrev pub nine : List Case
nine =
    worked
    ∷ empty 0 (codes "recipe\tyes\n")
    ∷ empty 7 (codes "recipe\tyes\n")
    ∷ empty 8 (codes "refused\t7\t0\n")
    -- "`./` is a plain name, `./bread` has path `.`, printed `=.`"
    ∷ named (codes "./") (codes "ingredient\t0\t./\t-\t-\t-\t-\t.\tdef\tstep\t-\n")
    ∷ named (codes "./bread") (codes "ingredient\t0\tbread\t-\t-\t-\t=.\t.\tdef\tstep\t-\n")
    -- "on `5 10 kg` it takes `10` as the unit of 5 and finds nothing. `1-2kg` gives 1 kg. `1.5.2 kg` gives nothing."
    ∷ inlined (codes "5 10 kg") (codes "item\ttext\t5 10 kg\n")
    ∷ inlined (codes "1-2kg") (codes "item\tinline\t0\ninline\t0\t1\t=kg\n")
    ∷ inlined (codes "1.5.2 kg") (codes "item\ttext\t1.5.2 kg\n")
    ∷ []
