use Rattle.std.proofs.Common.{refl, rules}
use Rattle.swap_reckoning.specs.Reckoned.{turns_end}
use Rattle.swap_reckoning.proofs.Work.reckon.Goals as goal

pub returns : goal.returns
returns c = (turns_end c.args.self.now c.requires (search rules) (search rules) c.take_turns.ensures refl, refl)
