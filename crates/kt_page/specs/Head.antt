-- How a page begins.
-- Cited by page.rt, `page::joined`, `page::page_with`; other crates.
use Rattle.std.specs.Prelude.{ℕ, List, codes}

abbrev pub page_head : List ℕ
page_head = codes "<!DOCTYPE html>\n"
