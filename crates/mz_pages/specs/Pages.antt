-- What a clause sees of pages and of their runs. This project's own.
use Rattle.std.specs.Prelude.{◌≡◌, ℕ, ◌-◌, ◌*◌, ◌/◌, List, Bool, true, false, length, replicate, count_by, refl}
use Rattle.std.specs.Coded.{Coded, code_by, coded×, coded_list, coded_ℕ, coded_bool}
use Rattle.mz_base.specs.declared.range.TheConstants.{PAGE}
use Rattle.mz_base.specs.Site.{Site, site_code}
use Rattle.mz_ground.specs.Views.{SpanView}
use Rattle.mz_bits.specs.Runs.{with_run}
use Rattle.mz_pages.specs.FreeRuns.{IsLowestFree}

-- the pages of a span: its space, its first page there, and for each page whether it is free
pub record PagesView : Type 0 where
  pub space : Site
  pub first : ℕ
  pub free : List Bool

-- they are stored as the tuple of their fields
abbrev pub pages_code : Coded PagesView
pages_code =
    code_by (Site × (ℕ × List Bool)) (coded× site_code (coded× coded_ℕ (coded_list coded_bool)))
    (λ p. (p.space, (p.first, p.free))) (λ t. record { space = t.0; first = t.1.0; free = t.1.1 }) (λ _. refl)

-- the page where a span of whole pages begins, and how many pages it has
abbrev pub first_page : SpanView → ℕ
first_page s = s.first / PAGE

abbrev pub page_count : SpanView → ℕ
page_count s = length s.bytes / PAGE

-- all pages of a span, free
abbrev pub all_free : SpanView → PagesView
all_free s = record { space = s.space; first = first_page s; free = replicate (page_count s) true }

-- how many are free
abbrev pub free_count : List Bool → ℕ
free_count free = count_by (λ b. b) free

-- the pages with the w from page f on made free, or not
abbrev pub with_pages : PagesView → ℕ → ℕ → Bool → PagesView
with_pages p f w v = record p { free = with_run p.free (f - p.first) w v }

-- s is the w pages from page f of a space on
pub record IsRun (space : Site) (f w : ℕ) (s : SpanView) : Type 0 where
  pub within : s.space ≡ space
  pub begins : s.first ≡ f * PAGE
  pub long : length s.bytes ≡ w * PAGE

-- s is all of the pages
abbrev pub IsWhole : PagesView → SpanView → Type 0
IsWhole p s = IsRun p.space p.first (length p.free) s

-- s is the lowest free run of w pages at a multiple of al, which is taken out of the pages
pub record Takes (before after : PagesView) (w al : ℕ) (s : SpanView) : Type 0 where
  pub run : IsRun before.space (first_page s) w s
  pub lowest : IsLowestFree before.first before.free w al (first_page s)
  pub left : after ≡ with_pages before (first_page s) w false
