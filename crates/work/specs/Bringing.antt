-- The prepare part of a publish, in a lent table with its strip.
use Rattle.std.specs.Prelude.{List, []}
use Rattle.rules.specs.declared.Change.{Change}
use Rattle.rules.specs.Table.{capacity}
use Rattle.rules.specs.Orders.{destinations}
use Rattle.rules.specs.Publication.{Stage, preparing}
use Rattle.storage.specs.declared.Storage.{Storage}
use Rattle.storage.specs.Leaving.{holding}

-- what it comes to
abbrev pub brought : Storage → List Change → Stage
brought s cs = preparing (capacity s.numbers.now) s.strip.now (destinations cs) [] 0 (holding s)
