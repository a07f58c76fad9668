-- Trying the rules: a theorem with `unfolding computing` sees every rule, a strip's too, compute, and holds by `refl`.
use Rattle.strips.specs.Strips.{proper_bytes, proper_strip}
use Rattle.rules.specs.Postings.{every, ranked, compared, same, chain, ascending, present, inserted, removed, rows_under, binding_below}
use Rattle.rules.specs.Table.{cells, numbers, all_of, limits_hold, well_formed}
use Rattle.rules.specs.Orders.{changes, proper_changes, guards, proper_guards, proper_lists, held, destinations_from, sources_from, recorded}
use Rattle.rules.specs.Storage.{insertion, removal}
use Rattle.rules.specs.Checks.{first_refusal, first_failing, table_check, poison_check, list_check, strip_check, room_check, guarded, guard_check, recordable, record_from, record_check, first_equal, twice_from, twice_check, present_check, overlap_check, opening_checks, lent_checks, arriving_checks, leaving_checks, order_checks, publish_beside, prepare_checks, rollback_checks, removal_checks, publish_checks, count_checks}
use Rattle.lent_lists.specs.Among.{among}
use Rattle.rules.specs.Publication.{undoing, preparing, removing}
use Rattle.rules.specs.Calls.{prepare_of, rollback_of, removal_of, publish_of, count_of}

-- any value, as it is
unfoldable pub computing : {A : Type 0} → A → A
unfolding every ranked compared same chain ascending present inserted removed rows_under binding_below cells numbers all_of limits_hold well_formed changes proper_changes guards proper_guards proper_lists held proper_bytes proper_strip destinations_from sources_from recorded insertion removal first_refusal first_failing table_check poison_check list_check strip_check room_check guarded guard_check recordable among record_from record_check first_equal twice_from twice_check present_check overlap_check opening_checks lent_checks arriving_checks leaving_checks order_checks publish_beside prepare_checks rollback_checks removal_checks publish_checks count_checks undoing preparing removing prepare_of rollback_of removal_of publish_of count_of
computing x = x
