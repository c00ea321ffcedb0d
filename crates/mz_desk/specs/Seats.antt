-- How the view of seat 0 is cut in two, how it takes in another, and what that other is left with. This project's own.
use Rattle.std.specs.Prelude.{◌≡◌, ◌+◌, ◌<◌, true, false, [], ◌∷◌, ◌++◌, replicate}
use Rattle.mz_desk.specs.declared.view.View.{View}
use Rattle.mz_desk.specs.Views.{pairs_of, pairs_besides}

-- split-seat: seat 0 after it gave a number with its caller's pairs
abbrev pub giver : View → View
giver v = record v { given = v.given + 1; pairs = pairs_besides v.given v.pairs }

-- and the seat that has it, which has seen the opening history
abbrev pub given_view : View → View
given_view v = record v {
  caller = v.given;
  given = 0;
  held = [];
  taking = [];
  since = [];
  seen = v.start;
  noted = [];
  pairs = pairs_of v.given v.pairs;
  lights = [];
  settled = replicate v.profile.nano 0;
  loads = [];
  wins = [];
  clashes = [];
  joined = [];
}

-- join-seat: seat 0 after it took in another, with its record and its hand. It goes on with what it has seen.
abbrev pub joined_view : View → View → View
joined_view v w = record v { pairs = v.pairs ++ w.pairs; joined = record { caller = w.caller; seen = w.seen; noted = w.noted; pairs = w.pairs; settled = w.settled } ∷ v.joined }

abbrev pub spent_view : View
spent_view = record {
  live = false;
  profile = record { pages = 0; callers = 0; magazines = 0; nano = 0; most_gen = 0; zones = 0 };
  space = record { name = 0; block = 0; origin = 0; size = 0 };
  start = [];
  dealt = [];
  caller = 0;
  given = 0;
  held = [];
  taking = [];
  since = [];
  seen = [];
  noted = [];
  pairs = [];
  lights = [];
  settled = [];
  loads = [];
  wins = [];
  clashes = [];
  joined = [];
}

-- seat 0, which has more numbers to give
pub record CanGive (v : View) : Type 0 where
  pub live : v.live ≡ true
  pub first : v.caller ≡ 0
  pub more : v.given < v.profile.callers

-- seat 0 takes in a seat that holds nothing, and took in none itself
pub record CanTakeIn (v w : View) : Type 0 where
  pub live : v.live ≡ true
  pub first : v.caller ≡ 0
  pub other_live : w.live ≡ true
  pub no_keeper : w.held ≡ []
  pub none_taking : w.taking ≡ []
  pub no_light : w.lights ≡ []
  pub none_joined : w.joined ≡ []
