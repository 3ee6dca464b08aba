-- A text that grows: what stood there still does.
-- Cited by bash.rt, escape.rt, fish.rt, page.rt, page_commands.rt, text.rt, zsh.rt, `bash::push_bash`,
--   `bash::push_case`, `bash::push_cases`, `bash::push_options`, `bash::push_valued`, `completing::completion`,
--   `fish::push_case`, `fish::push_cases`, `fish::push_fish`, `fish::push_option`, `fish::push_options`,
--   `page::manual`, `page::push_head`, `page::push_page`, `page::push_status`, `page_commands::push_argument_entry`,
--   `page_commands::push_argument` and 15 more.
use Rattle.std.proofs.Common.{◌≡◌, ℕ, ◌<◌, ◌≤◌, ◌+◌, List, [], ◌∷◌, ◌++◌}
use Rattle.std.proofs.Common.{length, get_or, take, refl, sym, ap, subst, ◌∙◌, append_assoc, arith}
use Rattle.std.proofs.lemmas.List.{append-nil, take_all}
use Rattle.std.proofs.lemmas.List.Folds.{list_all-append, list_all_at}
use Rattle.std.proofs.lemmas.List.Elements.{All-map, All-more, All-nil, All-weaker}
use Rattle.std.specs.Prelude.{Err, IsTrue, Ok, OnOk, Result, map}
use Rattle.std.specs.Str.Iter.{HasSubslice}
use Rattle.kt_words.specs.declared.words.OptionWords.{OptionWords}
use Rattle.kt_words.specs.declared.words.CommandWords.{CommandWords}
use Rattle.kt_words.specs.Plain.{IsPlain, is_plain_byte}
use Rattle.kt_words.specs.Grammar.{HasNamed, HasWords, Named, named}
use Rattle.kt_words.specs.auxiliary.Growth.{Extends, HasCommand, HasCommands, HasOption, HasOptions}

plain_both : (a b : List ℕ) → IsPlain a → IsPlain b → IsPlain (a ++ b)
plain_both a b p q = grind (arith, list_all-append is_plain_byte a b)

-- nothing is appended
pub Extends-itself : (a : List ℕ) → Extends a a
Extends-itself a = record { added = []; whole = sym (append-nil a); plain = refl }

-- one text behind the other is
pub Extends-then : (a b c : List ℕ) → Extends a b → Extends b c → Extends a c
Extends-then a b c first next = record {
  added = first.added ++ next.added;
  whole = next.whole ∙ ap (λ (x : List ℕ). x ++ next.added) first.whole ∙ append_assoc a first.added next.added;
  plain = plain_both first.added next.added first.plain next.plain;
}

infixl 10 ◌⊳◌
-- the same between two facts
pub ◌⊳◌ : {a b c : List ℕ} → Extends a b → Extends b c → Extends a c
◌⊳◌ {a = a} {b = b} {c = c} first next = Extends-then a b c first next

-- a byte is
pub Extends-byte : (a b : List ℕ) (byte : ℕ) → b ≡ a ++ byte ∷ [] → IsTrue (is_plain_byte byte) → Extends a b
Extends-byte a b byte e h = record { added = byte ∷ []; whole = e; plain = grind arith }

-- a byte of a printable text is printable
pub plain_at : (text : List ℕ) (i d : ℕ) → i < length text → IsPlain text → IsTrue (is_plain_byte (get_or text i d))
plain_at text i d lt plain = grind (arith, list_all_at is_plain_byte text i d)

-- where it was done, more was
pub OnOk-then : {T E : Type 0} (r : Result T E) (P Q : Type 0) → OnOk r P → (P → Q) → OnOk r Q
OnOk-then (Ok v) P Q h f = f h
OnOk-then (Err e) P Q h f = h

pub OnOk-both : {T E : Type 0} (r : Result T E) (P Q R : Type 0) → OnOk r P → OnOk r Q → (P → Q → R) → OnOk r R
OnOk-both (Ok v) P Q R h k f = f h k
OnOk-both (Err e) P Q R h k f = h

-- what is appended to nothing is printable
pub plain_from_nothing : (a b : List ℕ) → a ≡ [] → Extends a b → IsPlain b
plain_from_nothing a b e h =
    let P : List ℕ → Type 0 = λ x. IsPlain x in
    let whole : b ≡ h.added = h.whole ∙ ap (λ (x : List ℕ). x ++ h.added) e in
    subst P (sym whole) h.plain

-- what stood there stands there
pub HasSubslice-later : (a b w : List ℕ) → Extends a b → HasSubslice a w → HasSubslice b w
HasSubslice-later a b w h s = (
  s.0,
  s.1 ++ h.added,
  h.whole ∙ ap (λ (x : List ℕ). x ++ h.added) s.2 ∙ append_assoc s.0 (w ++ s.1) h.added
      ∙ ap (λ (x : List ℕ). s.0 ++ x) (append_assoc w s.1 h.added),
)

-- an option whose name stands there
pub HasOption-made : (a : List ℕ) (o : OptionWords) → HasSubslice a o.long.now → HasOption a o
HasOption-made a o s = record { long = s }

pub HasOption-later : (a b : List ℕ) (o : OptionWords) → Extends a b → HasOption a o → HasOption b o
HasOption-later a b o h s = record { long = HasSubslice-later a b o.long.now h s.long }

pub HasOptions-later : (a b : List ℕ) (os : List OptionWords) → Extends a b → HasOptions a os → HasOptions b os
HasOptions-later a b os h s = record { each = All-weaker (HasOption a) (HasOption b) (λ o. HasOption-later a b o h) os s.each }

-- a command whose name and options stand there
pub HasCommand-made : (a : List ℕ) (c : CommandWords) → HasSubslice a c.name.now → HasOptions a c.options.now → HasCommand a c
HasCommand-made a c name options = record { name = name; options = options }

pub HasCommand-later : (a b : List ℕ) (c : CommandWords) → Extends a b → HasCommand a c → HasCommand b c
HasCommand-later a b c h s = record {
  name = HasSubslice-later a b c.name.now h s.name;
  options = HasOptions-later a b c.options.now h s.options;
}

pub HasCommands-later : (a b : List ℕ) (cs : List CommandWords) → Extends a b → HasCommands a cs → HasCommands b cs
HasCommands-later a b cs h s = record { each = All-weaker (HasCommand a) (HasCommand b) (λ c. HasCommand-later a b c h) cs s.each }

-- the first option, and one more each time, until all do
pub no_options : (a : List ℕ) (os : List OptionWords) → HasOptions a (take 0 os)
no_options a os = record { each = All-nil (HasOption a) }

pub options_more : (a b : List ℕ) (os : List OptionWords) (i : ℕ) (d : OptionWords) → i < length os → Extends a b → HasOptions a (take i os)
    → HasOption b (get_or os i d) → HasOptions b (take (i + 1) os)
options_more a b os i d lt h before here =
    record { each = All-more (HasOption b) os i d lt (HasOptions-later a b (take i os) h before).each here }

pub all_options : (a : List ℕ) (os : List OptionWords) (i : ℕ) → length os ≤ i → HasOptions a (take i os) → HasOptions a os
all_options a os i le s = let P : List OptionWords → Type 0 = λ xs. HasOptions a xs in subst P (take_all i os le) s

-- the first command, and one more each time, until all do
pub no_commands : (a : List ℕ) (cs : List CommandWords) → HasCommands a (take 0 cs)
no_commands a cs = record { each = All-nil (HasCommand a) }

pub commands_more : (a b : List ℕ) (cs : List CommandWords) (i : ℕ) (d : CommandWords) → i < length cs → Extends a b → HasCommands a (take i cs)
    → HasCommand b (get_or cs i d) → HasCommands b (take (i + 1) cs)
commands_more a b cs i d lt h before here =
    record { each = All-more (HasCommand b) cs i d lt (HasCommands-later a b (take i cs) h before).each here }

pub all_commands : (a : List ℕ) (cs : List CommandWords) (i : ℕ) → length cs ≤ i → HasCommands a (take i cs) → HasCommands a cs
all_commands a cs i le s = let P : List CommandWords → Type 0 = λ xs. HasCommands a xs in subst P (take_all i cs le) s

-- what stands there of the table is what the grammar lists
named_has : (a : List ℕ) (c : CommandWords) → HasCommand a c → HasNamed a (named c)
named_has a c s = record {
  name = s.name;
  options = All-map (HasSubslice a) (λ (o : OptionWords). o.long.now) c.options.now
      (All-weaker (HasOption a) (λ (o : OptionWords). HasSubslice a o.long.now) (λ o h. h.long) c.options.now s.options.each);
}

pub words_of_table : (a : List ℕ) (cs : List CommandWords) (commands : List Named) → map named cs ≡ commands → HasCommands a cs → HasWords a commands
words_of_table a cs commands e s =
    let P : List Named → Type 0 = λ xs. HasWords a xs in
    subst P e (All-map (HasNamed a) named cs (All-weaker (HasCommand a) (λ (c : CommandWords). HasNamed a (named c)) (λ c. named_has a c) cs s.each))

pub ruleset growing = (
  Extends-itself,
  Extends-then,
  HasSubslice-later,
  HasOption-made,
  HasOption-later,
  HasOptions-later,
  HasCommand-made,
  HasCommand-later,
  HasCommands-later,
)
