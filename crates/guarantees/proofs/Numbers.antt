-- The numbers that each call answers with, of the calls themselves: those of its own list alone, whatever it is lent.
use Rattle.std.proofs.Common.{Result, ℕ}
use Prim.Native.Nat.{ℕ}
use mathlib.Core.Path.{◌≡◌}
use mathlib.Core.List.{List}
use mathlib.Core.Bool.{true}
use Rattle.rules.specs.declared.Failure.{Failure}
use Rattle.rules.specs.declared.Head.{Head}
use Rattle.rules.specs.Answers.{told_of}
use Rattle.lent_lists.specs.Among.{among}
use Rattle.rules.specs.Orders.{Call}
use Rattle.rules.specs.declared.Done.{Done}
use Rattle.rules.specs.Calls.{prepare_of, rollback_of, removal_of, publish_of}
use Rattle.history.specs.Numbers.{prepare_numbers, rollback_numbers, removal_numbers, publish_numbers, count_numbers}
use Rattle.history.proofs.Numbers as law
use Rattle.publish.specs.Promises.{PreparePromise, RollbackPromise, RemovalPromise, PublishPromise, CountPromise}
use Rattle.guarantees.proofs.Acceptance.{answer_of}

module _ (head : Head) (table : List ℕ) (c : Call) (r : Done) (t l : List ℕ) where
  -- prepare, rollback, source removal, publish
  pub prepare_numbers_lem : PreparePromise head table c r t l → among (told_of r.answer).answer prepare_numbers ≡ true
  prepare_numbers_lem k = rw (answer_of r t l (prepare_of head table c) k) (law.prepare_numbers_lem head table c)

  pub rollback_numbers_lem : RollbackPromise head table c r t l → among (told_of r.answer).answer rollback_numbers ≡ true
  rollback_numbers_lem k = rw (answer_of r t l (rollback_of head table c) k) (law.rollback_numbers_lem head table c)

  pub removal_numbers_lem : RemovalPromise head table c r t l → among (told_of r.answer).answer removal_numbers ≡ true
  removal_numbers_lem k = rw (answer_of r t l (removal_of head table c) k) (law.removal_numbers_lem head table c)

  pub publish_numbers_lem : PublishPromise head table c r t l → among (told_of r.answer).answer publish_numbers ≡ true
  publish_numbers_lem k = rw (answer_of r t l (publish_of head table c) k) (law.publish_numbers_lem head table c)

-- count
pub count_numbers_lem :
    (head : Head) (table : List ℕ) (binding key : ℕ) (a : Result ℕ Failure) → CountPromise head table binding key a →
    among (told_of a).answer count_numbers ≡ true
count_numbers_lem head table binding key a k = rw k (law.count_numbers_lem head table binding key)
