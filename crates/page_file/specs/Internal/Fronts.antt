-- What of a page file comes before its pages: the header of a directory, and the directory.
use Rattle.std.specs.Prelude.{ℕ, List, ◌++◌}
use Rattle.dag_core.specs.Ranges.{counts_of}
use Rattle.page_codec.specs.declared.directories.Directory.{Directory}
use Rattle.page_codec.specs.declared.headers.Header.{Header}
use Rattle.page_codec.specs.declared.sizes.TheConstants.{VERSION}
use Rattle.page_codec.specs.Spelling.{directory_bytes, directory_digest, header_bytes}

-- the header of the file that has this directory
unfoldable pub header_by : Directory → Header
header_by directory = record {
  version = VERSION;
  counts = counts_of directory.heads;
  digest = record { bytes = directory_digest VERSION (counts_of directory.heads) (directory_bytes directory) };
}

abbrev pub front_bytes : Directory → List ℕ
front_bytes directory = header_bytes (header_by directory) ++ directory_bytes directory
