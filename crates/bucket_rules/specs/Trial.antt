-- Trying the rules: a theorem with `unfolding computing` sees every rule of buckets compute, and holds by `refl`.
use Rattle.masks.specs.Masks.{digit, entered}
use Rattle.bucket_rules.specs.Buckets.{choose, distinct, mark, bits, membership}
use Rattle.lent_lists.specs.Among.{among}
use Rattle.bucket_rules.specs.Calls.{over_limits, short_output, short_scratch, range_check, checks, answer_of, sort_of, bitmap_of}
use Rattle.bucket_rules.specs.Stamps.{precedes}

-- any value, as it is
unfoldable pub computing : {A : Type 0} → A → A
unfolding digit entered among choose distinct mark bits membership over_limits short_output short_scratch range_check checks answer_of sort_of bitmap_of precedes
computing x = x
