use Rattle.mz_magazine.proofs.Idle.{room_through}
use Rattle.mz_magazine.proofs.laws.room_stays_where_bytes_stay_idle.Goals as goal

pub returns : goal.returns
returns c = room_through
