use mathlib.Core.Path.{refl}
use Rattle.following.proofs.Follows.{meta_off, meta_key, meta_define}
use Rattle.following.specs.Follow.{key_meta}
use Rattle.config_keys.specs.Keys.{key_in}
use Rattle.config_keys.specs.declared.Key.TheVariants as key
use Rattle.following.proofs.meta_of.Goals as goal

pub returns-in-Define : goal.returns-in-Define
returns-in-Define c = meta_define c.if-odd-eq1.true c.requires.0 _ c.part_of-k.ensures _ c.key_of.ensures c.requires.1 _ c.part_of-v.ensures _ c.in-Define.is c.define_value-m.ensures c.word_meta.ensures

pub returns-in-Duplicate : goal.returns-in-Duplicate
unfolding key_meta key_in
returns-in-Duplicate c = meta_key c.if-odd-eq1.true c.requires.0 _ c.part_of-k.ensures _ c.key_of.ensures key.Duplicate c.in-Duplicate.is refl

pub returns-in-Unknown : goal.returns-in-Unknown
unfolding key_meta key_in
returns-in-Unknown c = meta_key c.if-odd-eq1.true c.requires.0 _ c.part_of-k.ensures _ c.key_of.ensures key.Unknown c.in-Unknown.is refl

pub returns-in-Ordinary : goal.returns-in-Ordinary
unfolding key_meta key_in
returns-in-Ordinary c = meta_key c.if-odd-eq1.true c.requires.0 _ c.part_of-k.ensures _ c.key_of.ensures key.Ordinary c.in-Ordinary.is refl

pub returns : goal.returns
returns c = meta_off c.if-odd-eq1.false
