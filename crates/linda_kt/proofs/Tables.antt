-- What the table lists, put into a command line one by one.
-- Cited by `grammar::with_arguments`, `grammar::with_commands`, `grammar::with_options`.
use Rattle.std.proofs.Common.{◌≡◌, ◌∙◌, ◌<◌, ◌+◌, ◌||◌, ℕ, Bool, true, false, not, if◌then◌else◌, refl, sym, ap, ap₂, List, [], ◌∷◌, map, length, take, drop, get_or}
use Rattle.std.proofs.lemmas.List.{append_assoc, append-nil, at_drop_more, map_more}
use Rattle.std.specs.Prelude.{codes}
use Rattle.clap.specs.Words.{AddsArg, AddsSubcommand, App, Rule, Shape, app_of, rule_of, shape_of, with_subcommand}
use Rattle.clap.specs.declared.builder.arg.Arg.{Arg}
use Rattle.clap.specs.declared.builder.command.Command.{Command}
use Rattle.clap.specs.declared.builder.command.Command.TheViews.{out-Command as fields_of}
use Rattle.kt_words.specs.Word.{is_word}
use Rattle.kt_words.specs.declared.words.CommandWords.{CommandWords}
use Rattle.linda_kt.specs.auxiliary.Table.{table_shape, with_listed, with_rules, with_table}

-- no rule more
pub no_rules : (s : Shape) → s ≡ with_rules s []
no_rules s = ap (λ (rs : List Rule). record s { rules = rs }) (sym (append-nil s.rules))

-- one rule more
pub more_rules : {X : Type 0} (f : X → Rule) (xs : List X) (i : ℕ) (d : X) (s : Shape) (old new : Command) (a : Arg) → i < length xs
    → AddsArg old a new → a.global ≡ false → rule_of a ≡ f (get_or xs i d) → shape_of old ≡ with_rules s (map f (take i xs))
    → shape_of new ≡ with_rules s (map f (take (i + 1) xs))
more_rules f xs i d s old new a within adds local rule was =
    ap (λ (x : App). x.top) (adds.shape local) ∙ ap₂ (λ (x : Shape) (r : Rule). with_rules x (r ∷ [])) was rule
    ∙ ap (λ (rs : List Rule). record s { rules = rs }) (append_assoc s.rules (map f (take i xs)) (f (get_or xs i d) ∷ []))
    ∙ ap (with_rules s) (sym (map_more f xs i d within))

or_false : (b : Bool) → (b || false) ≡ b
or_false true = refl
or_false false = refl

-- an argument that is not global changes nothing of that
pub same_globals : (old new : Command) (a : Arg) (had : Bool) → AddsArg old a new → a.global ≡ false → (fields_of old).has_globals ≡ had
    → (fields_of new).has_globals ≡ had
same_globals old new a had adds local was = adds.globals ∙ ap₂ (λ b c. b || c) was local ∙ or_false had

not_true : (b c : Bool) → c ≡ not b → c ≡ true → b ≡ false
not_true true c is h = cc (is, h)
not_true false c is h = refl

not_false : (b c : Bool) → c ≡ not b → c ≡ false → b ≡ true
not_false true c is h = refl
not_false false c is h = cc (is, h)

-- a command of another name than `help` is put in, and `help` is not
pub puts_in : (w : CommandWords) (old new sub : Command) (c : Bool) → c ≡ not (is_word w.name.now (codes "help")) → c ≡ true
    → AddsSubcommand old sub new → (fields_of sub).has_globals ≡ false → shape_of sub ≡ table_shape w → app_of new ≡ with_listed (app_of old) w
puts_in w old new sub c is h adds local shape =
    adds.shape local ∙ ap (with_subcommand (app_of old)) shape
    ∙ ap (λ (b : Bool). if b then app_of old else with_subcommand (app_of old) (table_shape w)) (sym (not_true _ c is h))

pub leaves_out : (w : CommandWords) (a : App) (c : Bool) → c ≡ not (is_word w.name.now (codes "help")) → c ≡ false → a ≡ with_listed a w
leaves_out w a c is h = ap (λ (b : Bool). if b then a else with_subcommand a (table_shape w)) (sym (not_false _ c is h))

-- one command of the table more
pub one_less : (table : List CommandWords) (i : ℕ) (d : CommandWords) (old new all : App) → i < length table
    → new ≡ with_listed old (get_or table i d) → with_table old (drop i table) ≡ all → with_table new (drop (i + 1) table) ≡ all
one_less table i d old new all within is was =
    ap (λ (a : App). with_table a (drop (i + 1) table)) is ∙ sym (at_drop_more (with_table old) table i d within) ∙ was
