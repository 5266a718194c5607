use Rattle.std.proofs.Common.{rules, arith, ◌≡◌, ◌+◌, ◌-◌, ◌<◌, length, get_or}
use Rattle.std.proofs.iter.Serving.{serving}
use Rattle.diagrams.specs.Layout.{records, most_records}
use Rattle.classes.specs.Keys.{rest, part, place_at, one_bit_more, class_small, whole}
use Rattle.classes.proofs.tell_apart.Goals as goal

pub loop-k-init : goal.loop-k-init
loop-k-init c =
    let p = c.pass.ensures (part c.args.table.now rest) (λ i x l e. search rules) in
    rw c.requires.1 at p

pub pass-requires-in-loop-k-clause-may : goal.pass-requires-in-loop-k-clause-may
pass-requires-in-loop-k-clause-may c =
    λ i l. let small : get_or c.loop-k.class i 0 < most_records = class_small c.loop-k.invariant c.requires.0 i (omega arith) in search (rules, serving)

pub pass-requires-in-loop-k-clause-within : goal.pass-requires-in-loop-k-clause-within
pass-requires-in-loop-k-clause-within c = λ i x l e. search rules

pub loop-k-preserved : goal.loop-k-preserved
unfolding place_at
loop-k-preserved c =
    let p = c.pass-in-loop-k.ensures (place_at c.args.table.now c.loop-k.class (c.loop-k.k-counter - 1)) (λ i x l e. search rules) in
    let k : c.loop-k.k-counter - 1 + 1 ≡ c.loop-k.k-counter = omega arith in
    let n : length c.loop-k.class ≡ records c.args.table.now = omega arith in
    one_bit_more _ _ _ (rw k c.loop-k.invariant) (rw n at p)

pub returns : goal.returns
returns c = let z : c.loop-k.k-counter ≡ 0 = omega arith in whole _ _ (rw z at c.loop-k.invariant)
