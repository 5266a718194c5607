use Rattle.pen.proofs.Laws.{stores}
use Rattle.pen.proofs.Pen.store.Goals as goal

pub returns-then-self-gt0 : goal.returns-then-self-gt0
returns-then-self-gt0 c = search stores

pub returns-else-self-gt0 : goal.returns-else-self-gt0
returns-else-self-gt0 c = search stores
