-- Blocks on their way, and what becomes of the first of them at the end of a round. This project's own.
use Rattle.std.specs.Prelude.{◌≡◌, List, [], ◌∷◌, Some}
use Rattle.mz_words.specs.declared.name.Name.TheVariants.{Given}
use Rattle.mz_nano.specs.declared.view.Held.{Held}
use Rattle.mz_zone.specs.Blocks.{slot_added}
use Rattle.mz_session.specs.declared.parcel.Parcel.{Parcel}
use Rattle.mz_session.specs.Changes.{AreWith}
use Rattle.mz_session.specs.Sessions.{SessionView}

-- the slots of the blocks that are blocks of nano, in order
abbrev pub slots_of : List Parcel → List Held
slots_of [] = []
slots_of (g ∷ gs) = slot_added g.block.slot (slots_of gs)

-- the session with these blocks on their way
abbrev pub with_coming : SessionView → List Parcel → SessionView
with_coming s gs = record s { parcels = gs }

-- a block that was on its way got its name, and nothing else has changed
pub record Receives (s : SessionView) (g : Parcel) (t : SessionView) : Type 0 where
  pub zone : t.zone ≡ s.zone
  pub at : t.at ≡ s.at
  pub parcels : t.parcels ≡ s.parcels
  pub blocks : AreWith s.blocks (Given g.name) (Some g.block) t.blocks
