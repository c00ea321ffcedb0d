-- Where words stand.
use Rattle.std.proofs.Common.{ℕ, ◌<◌, arith}
use Rattle.mz_base.specs.declared.profile.Profile.{Profile}
use Rattle.mz_desk.specs.Words.{slot_place, word_count}

pub slot_in : (p : Profile) (b j : ℕ) → b < p.nano → j < 1024 → slot_place p b j < word_count p
slot_in p b j lb lj = omega arith
