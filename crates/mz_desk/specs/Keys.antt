-- What a register's table is told when it is made. This project's own.
use Rattle.mz_base.specs.Site.{Site}
use Rattle.mz_events.specs.Standing.{Keeping}
use Rattle.mz_book.specs.Owners.{pairs_told}
use Rattle.mz_book.specs.Plain.{site_of}
use Rattle.mz_desk.specs.declared.view.SpaceName.{SpaceName}
use Rattle.mz_desk.specs.declared.view.Opening.{Opening}
use Rattle.mz_desk.specs.Views.{Opened}

abbrev pub space_name : Site → SpaceName
space_name x = record { name = x.name; block = x.block; origin = x.origin; size = x.size }

-- as plain data: its profile, the space of its keepers, its history, the pairs that owners and history tell, and its classes
abbrev pub opened_as : {V : Type 0} → (V → Keeping) → Opening V → Opened
opened_as keeping o = record { profile = o.profile; space = space_name (site_of (keeping o.site.value)); history = o.history.items; pairs = pairs_told o.quanta.items o.history.items; classes = o.classes.items }
