-- From tests of the whole table to facts of its parts.
-- Cited by `completing::completion`, `page::manual`, `page::push_page`.
use Rattle.std.proofs.Common.{ℕ, Bool, true, false, ◌&&◌, List, [], ◌∷◌, Option, None, Some, refl}
use Rattle.std.proofs.lemmas.List.Elements.{All-cons, All-nil}
use Rattle.std.specs.Borrow.{Bor}
use Rattle.std.specs.List.{list_all}
use Rattle.std.specs.Prelude.{All, IfSome, IsTrue}
use Rattle.kt_words.specs.declared.words.OptionWords.{OptionWords}
use Rattle.kt_words.specs.declared.words.ArgumentWords.{ArgumentWords}
use Rattle.kt_words.specs.declared.words.CommandWords.{CommandWords}
use Rattle.kt_words.specs.declared.status_table.StatusWords.{StatusWords}
use Rattle.kt_words.specs.Plain.{IsPlain, is_plain, is_plain_argument, is_plain_command, is_plain_option, is_plain_value}
use Rattle.kt_words.specs.auxiliary.Parts.{IsPlainArgument, IsPlainCommand, IsPlainOption, IsPlainStatus}
use Rattle.kt_words.specs.auxiliary.Status.{is_plain_status}

first_of_both : (a b : Bool) → IsTrue (a && b) → IsTrue a
first_of_both true b h = refl
first_of_both false b h = h

second_of_both : (a b : Bool) → IsTrue (a && b) → IsTrue b
second_of_both true b h = h
second_of_both false b h = absurd (cc h)

-- what each passes, each is
all_from_test : {X : Type 0} (p : X → Bool) (P : X → Type 0) → ((x : X) → IsTrue (p x) → P x) → (xs : List X)
    → IsTrue (list_all p xs) → All P xs
all_from_test p P f [] h = All-nil P
all_from_test p P f (x ∷ xs) h =
    All-cons P x xs (f x (first_of_both (p x) (list_all p xs) h)) (all_from_test p P f xs (second_of_both (p x) (list_all p xs) h))

plain_value : (value : Option (Bor (List ℕ))) → IsTrue (is_plain_value value) → IfSome value (λ v. IsPlain v.now)
plain_value None h = tt
plain_value (Some value) h = h

plain_option : (o : OptionWords) → IsTrue (is_plain_option o) → IsPlainOption o
plain_option o h =
    let rest = second_of_both (is_plain o.long.now) (is_plain_value o.value && is_plain o.help.now) h in
    record {
      long = first_of_both (is_plain o.long.now) (is_plain_value o.value && is_plain o.help.now) h;
      value = plain_value o.value (first_of_both (is_plain_value o.value) (is_plain o.help.now) rest);
      help = second_of_both (is_plain_value o.value) (is_plain o.help.now) rest;
    }

plain_argument : (a : ArgumentWords) → IsTrue (is_plain_argument a) → IsPlainArgument a
plain_argument a h =
    let test : Bor (List ℕ) → Bool = λ v. is_plain v.now in
    let values : Bool = list_all test a.values.now in
    let rest = second_of_both (is_plain a.name.now) (is_plain a.help.now && values) h in
    record {
      name = first_of_both (is_plain a.name.now) (is_plain a.help.now && values) h;
      help = first_of_both (is_plain a.help.now) values rest;
      values = all_from_test test (λ v. IsPlain v.now) (λ v t. t) a.values.now (second_of_both (is_plain a.help.now) values rest);
    }

plain_command : (c : CommandWords) → IsTrue (is_plain_command c) → IsPlainCommand c
plain_command c h =
    let arguments : Bool = list_all is_plain_argument c.arguments.now in
    let options : Bool = list_all is_plain_option c.options.now in
    let rest = second_of_both (is_plain c.name.now) (is_plain c.about.now && (arguments && options)) h in
    let lists = second_of_both (is_plain c.about.now) (arguments && options) rest in
    record {
      name = first_of_both (is_plain c.name.now) (is_plain c.about.now && (arguments && options)) h;
      about = first_of_both (is_plain c.about.now) (arguments && options) rest;
      arguments = all_from_test is_plain_argument IsPlainArgument plain_argument c.arguments.now (first_of_both arguments options lists);
      options = all_from_test is_plain_option IsPlainOption plain_option c.options.now (second_of_both arguments options lists);
    }

pub plain_commands : (cs : List CommandWords) → IsTrue (list_all is_plain_command cs) → All IsPlainCommand cs
plain_commands cs h = all_from_test is_plain_command IsPlainCommand plain_command cs h

plain_status : (s : StatusWords) → IsTrue (is_plain_status s) → IsPlainStatus s
plain_status s h = record {
  number = first_of_both (is_plain s.number.now) (is_plain s.text.now) h;
  text = second_of_both (is_plain s.number.now) (is_plain s.text.now) h;
}

pub plain_statuses : (ss : List StatusWords) → IsTrue (list_all is_plain_status ss) → All IsPlainStatus ss
plain_statuses ss h = all_from_test is_plain_status IsPlainStatus plain_status ss h
