-- What was read of a store's nodes, and the content that these facts are of.
-- Cited by Founds, found.rt, judging.rt, labels.rt, leads.rt, logs.rt, parts.rt, scene.rt, `judging::first_unfit`,
--   `judging::fits_in`, `judging::is_fit`, `labels::labels_fit`, `leads::leads_to`, `logs::history_of`,
--   `logs::logs_of`, `parts::room_behind`; other crates.
use Rattle.std.specs.Prelude.{ℕ, List, [], map, None}
use Rattle.kt_script.specs.declared.command.Command.{Command}
use Rattle.kt_store.specs.declared.rows.NodeRow.{NodeRow}
use Rattle.kt_store.specs.Content.{Content}
use Rattle.kt_scenario.specs.Scene.{SceneModel}
use Rattle.kt_resume.specs.declared.found.Found.{Found}

-- so many shards, and a worker for each of these scripts
abbrev pub scene_of : ℕ → List (List Command) → SceneModel
scene_of shards scripts = record { shards = shards; scripts = scripts }

-- a row in which what counts as permanent is the stored permanent checkpoint
abbrev pub row_from : Found → NodeRow
row_from f = record { node = f.node; incarnation = f.incarnation; permanent = f.checkpoint; tentative = None }

-- the store that holds just what was found, and that has nothing tentative and no instance
abbrev pub content_of : List Found → Content
content_of found = record { nodes = map row_from found; board = [] }
