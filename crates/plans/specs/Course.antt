-- An order on its way to a target, as the bytes of the two.
use Rattle.std.specs.Prelude.{ℕ, List}
use Rattle.orders.specs.Arranged.{bytes_of}
use Rattle.plans.specs.declared.course.Course.{Course}

-- the order
abbrev pub from : Course → List ℕ
from c = bytes_of c.order c.n

-- its target
abbrev pub to : Course → List ℕ
to c = bytes_of c.target c.n
