-- `put` meets its contract: the piece stands at its place.
use Rattle.wire.proofs.Put.{put_copied}
use Rattle.text.proofs.put.Goals as goal

pub returns : goal.returns
returns c = put_copied c.requires c.copy_from_slice.ensures.after
