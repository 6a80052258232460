use native.Mathlib.Omega.{arith}
use Rattle.meta_map.proofs.Props.{indexed_of}
use Rattle.meta_map.proofs.Stored.{found_below, inserted_value, inserted_key}
use Rattle.meta_map.proofs.Map.insert.Goals as goal

pub set_value-requires : goal.set_value-requires
set_value-requires c =
    let z = indexed_of c.args.self.now.indexed in
    omega (arith, found_below z c.requires.1 c.find.ensures c.in-Some.is, c.requires.0, z.long)

pub push_key-requires : goal.push_key-requires
push_key-requires c = (c.requires.0, c.hash_kept-b.ensures.small, (indexed_of c.args.self.now.indexed).long)

pub invariant_of-self : goal.invariant_of-self
invariant_of-self c = record { indexed = ∣ (inserted_value (indexed_of c.args.self.now.indexed) c.requires.1 c.find.ensures c.in-Some.is c.set_value.ensures).indexed ∣₁; short = c.args.self.now.short }

pub invariant_of-self-in-None : goal.invariant_of-self-in-None
invariant_of-self-in-None c = record { indexed = ∣ (inserted_key (indexed_of c.args.self.now.indexed) c.requires.1 c.find.ensures c.requires.0 c.hash_kept-b.ensures c.in-None.is c.push_key.ensures).indexed ∣₁; short = c.args.self.now.short }

pub returns-in-Some-clause-inserted : goal.returns-in-Some-clause-inserted
returns-in-Some-clause-inserted c = inserted_value (indexed_of c.args.self.now.indexed) c.requires.1 c.find.ensures c.in-Some.is c.set_value.ensures

pub returns-in-None-clause-inserted : goal.returns-in-None-clause-inserted
returns-in-None-clause-inserted c = inserted_key (indexed_of c.args.self.now.indexed) c.requires.1 c.find.ensures c.requires.0 c.hash_kept-b.ensures c.in-None.is c.push_key.ensures
