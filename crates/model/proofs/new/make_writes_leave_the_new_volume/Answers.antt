use Rattle.model.proofs.NewLaws.{writes_leave}
use Rattle.model.proofs.new.make_writes_leave_the_new_volume.Goals as goal

pub returns : goal.returns
returns c = writes_leave
