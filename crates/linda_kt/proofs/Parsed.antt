-- What a parse by the program's own command line can give.
-- Cited by `words::read_words`.
use Rattle.std.proofs.Common.{◌≡◌, List, [], ◌∷◌, Option, Some, None, option_map, ap, subst, sym, inl, inr, ◌∙◌, refl}
use Rattle.std.specs.Prelude.{Result, Ok, Err, IsErrAnd}
use Rattle.std.specs.Borrow.{Bor}
use Rattle.clap.specs.Words.{App, HasMatchesOf, Kinds, Row, Text, fault_of, found_of, is_simple, rows_of}
use Rattle.clap.specs.Words.{subcommand_of, subcommand_name_of, subcommand_rows_of}
use Rattle.clap.specs.Kinds.{FailsBy, HasKind, IsAmong, or_else}
use Rattle.clap.specs.Values.{kind_of}
use Rattle.clap.specs.declared.error.Error.{Error}
use Rattle.clap.specs.declared.error.kind.ErrorKind.{ErrorKind}
use Rattle.clap.specs.declared.parser.matches.ArgMatches.{ArgMatches}
use Rattle.clap.specs.declared.parser.matches.ArgMatches.TheViews.{out-ArgMatches}
use Rattle.linda_kt.specs.Words.{answer_of, asked_of_met, misfit_kinds, words_fault}
use Rattle.linda_kt.specs.Grammar.{command_line_app}

-- a map after a map
fused : {X Y Z : Type 0} (g : X → Y) (f : Y → Z) (o : Option X) → option_map f (option_map g o) ≡ option_map (λ x. f (g x)) o
fused g f None = refl
fused g f (Some x) = refl

-- a kind that the first step has is one of both
kept_kind : (k : ErrorKind) (kinds later : Kinds) → IsAmong k kinds → IsAmong k (or_else kinds later)
kept_kind k [] later among = absurd among
kept_kind k (x ∷ xs) later among = among

-- an error of the parse has a kind of the words' fault
pub still_fails : (a : App) (words : List Text) (e : Error) → a ≡ command_line_app → HasKind (fault_of a words) e
    → HasKind (words_fault words) e
still_fails a words e same (inl memory) = inl memory
still_fails a words e same (inr among) =
    inr (kept_kind _ _ (misfit_kinds (answer_of words)) (subst (λ (x : App). IsAmong (kind_of e) (fault_of x words)) same among))

-- an error that is passed on has the kind that it had
pub passed_on : {T : Type 0} (kinds : Kinds) (e : Error) (r : Result T Error) → HasKind kinds e → IsErrAnd r (λ x. x ≡ e)
    → FailsBy kinds r
passed_on kinds e (Ok x) has is = absurd is
passed_on kinds e (Err x) has is = subst (HasKind kinds) (sym is) has

-- a subcommand as `clap` lends it: its name, and the matches of its own words
abbrev pub Lent : Type 0
Lent = Bor Text × Bor ArgMatches

abbrev pub pair_of : Lent → Text × List Row
pair_of q = (q.0.now, rows_of (found_of q.1.now))

some_is : {X : Type 0} (a b : X) → Some a ≡ Some b → a ≡ b
some_is a b e = cc

-- what may be lent is known by its parts
pairs : (o : Option Lent) (r : Option (Text × List Row)) → option_map (λ (q : Lent). q.0.now) o ≡ option_map (λ p. p.0) r
    → option_map (λ (q : Lent). rows_of (found_of q.1.now)) o ≡ option_map (λ p. p.1) r → option_map pair_of o ≡ r
pairs None None name rows = refl
pairs None (Some p) name rows = cc
pairs (Some q) None name rows = cc
pairs (Some q) (Some p) name rows =
    ap (λ (a : Text). Some (a, rows_of (found_of q.1.now))) (some_is _ _ name) ∙ ap (λ (b : List Row). Some (p.0, b)) (some_is _ _ rows)

module _ (a : App) (words : List Text) (m : ArgMatches) (o : Option Lent) (same : a ≡ command_line_app) (has : HasMatchesOf a words m)
    (name : option_map (λ (q : Lent). q.0.now) o ≡ subcommand_name_of m)
    (rows : option_map (λ (q : Lent). rows_of (found_of q.1.now)) o ≡ option_map (λ p. p.1) (subcommand_rows_of m)) where
  -- the command that was met, and its own words, are those that the words name
  pub met_is : option_map pair_of o ≡ subcommand_of command_line_app words
  met_is =
      pairs o (subcommand_rows_of m) (name ∙ sym (fused _ _ (out-ArgMatches m).subcommand)) rows
      ∙ (has (ap is_simple same)).1 ∙ ap (λ x. subcommand_of x words) same

  -- so the words ask what that asks
  pub answer_is : answer_of words ≡ asked_of_met (option_map pair_of o)
  answer_is = ap asked_of_met (sym met_is)

  -- and what is wrong with words that pass the rules of `clap` is that they do not fit together
  pub fault_is : fault_of a words ≡ [] → words_fault words ≡ misfit_kinds (asked_of_met (option_map pair_of o))
  fault_is none =
      ap (λ (k : Kinds). or_else k (misfit_kinds (answer_of words))) (sym (ap (λ x. fault_of x words) same) ∙ none)
      ∙ ap misfit_kinds answer_is

-- words that ask something have no fault but one of `clap`; those that ask nothing have the kind of that
pub refused_by : (kinds : Kinds) (misfit : Kinds) (e : Error) → kinds ≡ misfit → HasKind misfit e → HasKind kinds e
refused_by kinds misfit e is has = subst (λ (k : Kinds). HasKind k e) (sym is) has
