-- What is known of a page file that was opened, whatever its source.
use Rattle.std.specs.Prelude.{◌≡◌, ◌<◌, ℕ, List, length, None, slice_index_or}
use Rattle.sha2.specs.Sha256.{sha256}
use Rattle.geom_core.specs.declared.limits.TheConstants.{PAGE_BYTES}
use Rattle.dag_core.specs.Rules.{Checked}
use Rattle.page_codec.specs.declared.directories.Directory.{Directory}
use Rattle.page_codec.specs.declared.pages.Page.{Page}
use Rattle.page_codec.specs.Breaks.{first_page_break}
use Rattle.page_codec.specs.Fits.{FitsDirectory, FitsPage}
use Rattle.page_codec.specs.Reading.{page_of}
use Rattle.page_codec.specs.Spelling.{page_bytes}
use Rattle.page_file.specs.declared.opened.Opened.{Opened}
use Rattle.page_file.specs.Judging.{stated_digest}

-- the page is what some text of a page's length reads as, which breaks no rule, has the digest that the directory
-- states for page p, and is what the page spells
pub record IsPageOf (directory : Directory) (p : ℕ) (page : Page) : Type 0 where
  pub text : List ℕ
  pub size : length text ≡ PAGE_BYTES
  pub digest : sha256 text ≡ (stated_digest directory p).bytes
  pub no_break : first_page_break directory.heads p text ≡ None
  pub reads : page_of directory.heads p text ≡ page
  pub fits : FitsPage directory.heads page
  pub spelt : page_bytes page ≡ text

-- these are the first n pages, by their numbers
pub record ArePagesOf (directory : Directory) (n : ℕ) (pages : List Page) : Type 0 where
  pub count : length pages ≡ n
  pub each : (p : ℕ) (none : Page) → p < n → IsPageOf directory p (slice_index_or pages p none)

-- the heads keep their ranges and rules 1 to 5, each page has one digest, and the root pages are there, in order
pub record IsOpened (opened : Opened) : Type 0 where
  pub directory : FitsDirectory opened.directory
  pub rules : Checked opened.directory.heads
  pub roots : ArePagesOf opened.directory opened.directory.heads.roots opened.roots
