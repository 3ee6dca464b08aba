-- The characters of lines and of cells.
-- Cited by Added, adding.rt, ballot_cells.rt, cells.rt, node_cells.rt, request_cells.rt, saved_cells.rt,
--   `ballot_cells::ballot_lines`, `cells::cells_of`, `cells::push_all_ways`, `cells::push_nodes`, `cells::push_ways`,
--   `cells::way_lines`, `node_cells::kept_lines`, `request_cells::add_all_waiting`, `request_cells::bag_lines`,
--   `saved_cells::saved_lines`; other crates.
use Rattle.std.specs.Prelude.{ℕ, List, map}
use Rattle.std.specs.Global.{Vec}

-- the characters of each line
abbrev pub text_of : List (Vec ℕ) → List (List ℕ)
text_of lines = map (λ line. line.items) lines

-- those of each cell
abbrev pub cells_text : List (Vec (Vec ℕ)) → List (List (List ℕ))
cells_text cells = map (λ cell. text_of cell.items) cells
