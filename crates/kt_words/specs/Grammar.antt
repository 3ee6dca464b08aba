-- The commands and their long options.
-- Cited by Growing, command_table.rt, completing.rt, page.rt; other crates.
use Rattle.std.specs.Prelude.{ℕ, List, [], ◌∷◌, All, codes, map}
use Rattle.std.specs.Str.Iter.{HasSubslice}
use Rattle.kt_words.specs.declared.words.CommandWords.{CommandWords}

-- a command: its name, and its long options without `--help`
pub record Named : Type 0 where
  pub name : List ℕ
  pub options : List (List ℕ)

-- those of a command of the table
abbrev pub named : CommandWords → Named
named c = record { name = c.name.now; options = map (λ o. o.long.now) c.options.now }

abbrev pub command : List ℕ → List (List ℕ) → Named
command name options = record { name = name; options = options }

-- each command with its long options, in the order of the help
abbrev pub grammar : List Named
grammar =
    command (codes "replay") (codes "store" ∷ codes "explain" ∷ codes "json" ∷ [])
    ∷ command (codes "run")
    (codes "store" ∷ codes "journal" ∷ codes "resume" ∷ codes "times" ∷ codes "chaos" ∷ codes "seed" ∷ codes "explain"
    ∷ codes "json" ∷ [])
    ∷ command (codes "resume") (codes "store" ∷ codes "explain" ∷ codes "json" ∷ [])
    ∷ command (codes "migrate") (codes "store" ∷ [])
    ∷ command (codes "check") (codes "explain" ∷ codes "json" ∷ [])
    ∷ command (codes "complete") []
    ∷ command (codes "trace") (codes "from" ∷ codes "to" ∷ codes "node" ∷ codes "json" ∷ [])
    ∷ command (codes "draw") (codes "html" ∷ codes "from" ∷ codes "to" ∷ [])
    ∷ command (codes "show") (codes "json" ∷ [])
    ∷ command (codes "explain") []
    ∷ command (codes "completion") []
    ∷ command (codes "manual") []
    ∷ command (codes "help") []
    ∷ []

-- the command's name and its long options stand in the text
pub record HasNamed (text : List ℕ) (c : Named) : Type 0 where
  pub name : HasSubslice text c.name
  pub options : All (HasSubslice text) c.options

-- those of each command do
abbrev pub HasWords : List ℕ → List Named → Type 0
HasWords text commands = All (HasNamed text) commands
