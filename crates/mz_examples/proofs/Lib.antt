mod ServedTests
mod UndisturbedTest
mod ResizedTests
mod RunTests
mod SpoiledRuns
mod MeetsTest
