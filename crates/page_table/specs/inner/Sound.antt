-- What always holds of pages as they lie in memory. What code and proofs say to each other; nothing public rests on it.
use Rattle.std.specs.Prelude.{◌≡◌, length}
use Rattle.page_table.specs.Pages.{IsTable}
use Rattle.page_table.specs.Lists.{Lists, table_of}

-- there is a shelf for each class, and one of class 0 that stays empty
pub record IsSound (s : Lists) : Type 0 where
  pub shelves : length s.shelves ≡ 22
  pub table : IsTable (table_of s)
