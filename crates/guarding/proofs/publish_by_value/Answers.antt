use Rattle.guarding.proofs.InPlace.{hands_back}
use Rattle.guarding.proofs.publish_by_value.Goals as goal

pub returns : goal.returns
returns c = hands_back _ _ _ _ _ c.publish_beside-done.ensures
