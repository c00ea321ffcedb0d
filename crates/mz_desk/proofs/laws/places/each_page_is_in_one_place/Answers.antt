use Rattle.mz_desk.specs.Rule.{all_of}
use Rattle.mz_desk.proofs.laws.places.each_page_is_in_one_place.Goals as goal

pub returns : goal.returns
returns g c = λ key s r. (r.0, r.1, c.separation.ensures key.profile (all_of key r.0) r.1.history.lawful)
