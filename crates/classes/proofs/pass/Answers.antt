use Rattle.std.proofs.Common.{rules, arith, ◌<◌, length, refl, ◌∙◌, le_refl}
use Rattle.classes.specs.Pass.{kept_begins, kept_goes, passing_begins, passing_goes, passing_ends, entered_slots}
use Rattle.classes.proofs.pass.Goals as goal

pub loop-i-init : goal.loop-i-init
loop-i-init g c = record { all_slots = search rules; kept = kept_begins _; passing = λ at h. passing_begins refl }

pub place-x-requires : goal.place-x-requires
place-x-requires g c =
    let e = c.from.ensures ∙ c.loop-i.invariant.kept.left c.loop-i.i (le_refl c.loop-i.i) in
    rw e (c.requires.may c.loop-i.i (omega arith))

pub enter-requires : goal.enter-requires
enter-requires g c =
    let e = c.from.ensures ∙ c.loop-i.invariant.kept.left c.loop-i.i (le_refl c.loop-i.i) in
    let l = c.requires.within c.loop-i.i c.place-x.result (omega arith) (rw e at c.place-x.ensures) in
    omega (arith, c.requires.few)

pub loop-i-preserved : goal.loop-i-preserved
loop-i-preserved g c =
    let e = c.from.ensures ∙ c.loop-i.invariant.kept.left c.loop-i.i (le_refl c.loop-i.i) in
    let p = rw e at c.place-x.ensures in
    let l : c.loop-i.i < length c.args.class.now = omega arith in
    let x = c.requires.within c.loop-i.i c.place-x.result l p in
    let s = c.enter.ensures in
    let long = c.loop-i.invariant.all_slots in
    record {
      all_slots = entered_slots s ∙ long;
      kept = kept_goes s c.loop-i.invariant.kept;
      passing = λ at h. passing_goes s (c.loop-i.invariant.passing at h) (h c.loop-i.i c.place-x.result l p) (omega arith) x long;
    }

pub returns : goal.returns
returns g c = λ at h. passing_ends (c.loop-i.invariant.passing at h) (search rules) (search rules)
