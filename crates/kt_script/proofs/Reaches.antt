-- The position and the values that are kept reach the operation that is asked next.
-- Cited by `Script::has_next`, `Script::next`, `laws::next_and_bind_reach_what_is_asked`; other crates.
use Rattle.std.proofs.Common.{◌≡◌, ℕ, zero, suc, ◌+◌, ℤ, List, [], ◌∷◌, length, drop, fold, Option}
use Rattle.std.proofs.Common.{None, Some, slice_get, flat_map, refl, sym, ap, subst, ◌∙◌, add-one}
use Rattle.std.specs.Prelude.{if◌then◌else◌}
use Rattle.kt_tuple.specs.declared.op.Op.{Op}
use Rattle.kt_tuple.specs.declared.op.Answer.{Answer}
use Rattle.kt_script.specs.declared.name.Name.{Name}
use Rattle.kt_script.specs.declared.next.Next.{Next}
use Rattle.kt_script.specs.declared.command.Operation.{Operation}
use Rattle.kt_script.specs.declared.command.Command.{Command}
use Rattle.kt_script.specs.declared.command.Command.TheVariants.{Ask, Set, Unless}
use Rattle.kt_script.specs.Command.{slots_of, bindings}
use Rattle.kt_script.specs.Variables.{variables_of}
use Rattle.kt_script.specs.Meaning.{op_of, plus, with_value, after_answer}
use Rattle.kt_script.specs.Asks.{Deed, Answered, Assigned, meaning_after, was_none, asks_after, asks}
use Rattle.kt_script.specs.Memory.{Memory, opening_memory, held, with_held, values_after}
use Rattle.kt_script.specs.Next.{Position, assigned, next_from, next_at, slots_of_command, slots_before}
use Rattle.kt_script.specs.Next.{bound, opening_position, answered, after_one, position_after, op_of_next}
use Rattle.kt_script.proofs.Held.{AreKnown, AreKnown-left, AreKnown-right, held-zeros, length-zeros}
use Rattle.kt_script.proofs.Held.{length-with_held, held-with_held, length-values_after, held-values_after}
use Rattle.kt_script.proofs.Known.{AreKnown-script, AreKnown-drop}

module _ (script : List Command) where
  -- what is kept is what follows from the deeds
  pub record Agrees (deeds : List Deed) (memory : Memory) : Type 0 where
    pub means : held (variables_of script) memory.values ≡ meaning_after script deeds
    pub none : memory.was_none ≡ was_none deeds
    pub fits : length memory.values ≡ length (variables_of script)

  pub Agrees-opening : Agrees [] (opening_memory script)
  Agrees-opening = record {
    means = λ j x. held-zeros (variables_of script) x j;
    none = refl;
    fits = length-zeros (variables_of script);
  }

  pub Agrees-assigned : (deeds : List Deed) (memory : Memory) (x y : Name) (k : ℤ) → AreKnown (variables_of script) (bindings (Set x y k)) → Agrees deeds memory
      → Agrees (Assigned x y k ∷ deeds) (assigned (variables_of script) memory x y k)
  Agrees-assigned deeds memory x y k known a =
      let vs = variables_of script in
      let w = plus (held vs memory.values y) k in
      let wrote : held vs (with_held vs memory.values x w) ≡ with_value (held vs memory.values) x w =
      λ j z. held-with_held vs memory.values x w a.fits known.0 z j in
      record {
        means = wrote ∙ ap (λ m. with_value m x (plus (m y) k)) a.means;
        none = a.none;
        fits = length-with_held vs memory.values x w ∙ a.fits;
      }

  -- with no more answers the next operation is asked
  pub asked-next : (commands : List Command) (skipped : ℕ) (deeds : List Deed) (memory : Memory) (pc : ℕ)
      → AreKnown (variables_of script) (flat_map bindings commands) → Agrees deeds memory
      → asks_after script skipped deeds commands [] ≡ op_of_next (next_from (variables_of script) memory skipped pc commands)
  asked-next [] skipped deeds memory pc known a = refl
  asked-next (c ∷ later) (suc skipped) deeds memory pc known a =
      asked-next later skipped deeds memory (pc + 1) (AreKnown-right _ (bindings c) (flat_map bindings later) known) a
  asked-next (Set x y k ∷ later) zero deeds memory pc known a =
      asked-next later 0 (Assigned x y k ∷ deeds) (assigned (variables_of script) memory x y k) (pc + 1)
      (AreKnown-right _ (bindings (Set x y k)) (flat_map bindings later) known)
      (Agrees-assigned deeds memory x y k (AreKnown-left _ (bindings (Set x y k)) (flat_map bindings later) known) a)
  asked-next (Unless n ∷ later) zero deeds memory pc known a =
      ap (λ b. asks_after script (if b then n else 0) deeds later []) (sym a.none)
      ∙ asked-next later (if memory.was_none then n else 0) deeds memory (pc + 1) known a
  asked-next (Ask operation ∷ later) zero deeds memory pc known a =
      ap (λ m. Some (op_of m operation)) (sym a.means)

  -- the next operation was answered: the deeds and what is kept then, and what is left
  pub record Leads (e : Option Op) (answer : Answer) (more : List Answer) (next : Next) : Type 0 where
    pub deeds : List Deed
    pub agrees : Agrees deeds (bound script next.pc answer next.env)
    pub leads : e ≡ asks_after script 0 deeds (drop next.pc script) more

  abbrev pub GoesOn : Option Op → Answer → List Answer → Option Next → Type 0
  GoesOn e answer more None = e ≡ None
  GoesOn e answer more (Some next) = Leads e answer more next

  pub drop-next : (commands : List Command) (pc : ℕ) (c : Command) (later : List Command) → drop pc commands ≡ c ∷ later → drop (pc + 1) commands ≡ later
  drop-next commands pc c later e = ap (λ n. drop n commands) (add-one pc) ∙ by commands pc e
    where
      by : (cs : List Command) (n : ℕ) → drop n cs ≡ c ∷ later → drop (suc n) cs ≡ later
      by [] zero e = absurd cc
      by [] (suc n) e = absurd cc
      by (d ∷ cs) zero e = ap (drop 1) e
      by (d ∷ cs) (suc n) e = by cs n e

  pub slice_get-drop : (commands : List Command) (pc : ℕ) (c : Command) (later : List Command) → drop pc commands ≡ c ∷ later → slice_get commands pc ≡ Some c
  slice_get-drop [] zero c later e = absurd cc
  slice_get-drop [] (suc n) c later e = absurd cc
  slice_get-drop (d ∷ cs) zero c later e = ap (λ xs. slice_get xs 0) e
  slice_get-drop (d ∷ cs) (suc n) c later e = slice_get-drop cs n c later e

  pub slots_before-drop : (pc : ℕ) (operation : Operation) (later : List Command) → drop pc script ≡ Ask operation ∷ later
      → slots_before script (pc + 1) ≡ slots_of operation
  slots_before-drop pc operation later e = ap (slots_before script) (add-one pc) ∙ ap slots_of_command (slice_get-drop script pc (Ask operation) later e)

  pub Agrees-answered : (deeds : List Deed) (memory : Memory) (pc : ℕ) (operation : Operation) (answer : Answer) → slots_before script pc ≡ slots_of operation
      → AreKnown (variables_of script) (bindings (Ask operation)) → Agrees deeds memory
      → Agrees (Answered operation answer ∷ deeds) (bound script pc answer memory)
  Agrees-answered deeds memory pc operation answer e known a =
      let vs = variables_of script in record {
        means =
            ap (λ p. held vs (values_after vs memory.values p answer)) e
            ∙ held-values_after vs memory.values (slots_of operation) answer a.fits known
            ∙ ap (λ m. after_answer m (slots_of operation) answer) a.means;
        none = refl;
        fits = length-values_after vs memory.values (slots_before script pc) answer ∙ a.fits;
      }

  pub answered-next : (commands : List Command) (skipped : ℕ) (deeds : List Deed) (memory : Memory) (pc : ℕ) (answer : Answer) (more : List Answer)
      → drop pc script ≡ commands → AreKnown (variables_of script) (flat_map bindings commands) → Agrees deeds memory
      → GoesOn (asks_after script skipped deeds commands (answer ∷ more)) answer more (next_from (variables_of script) memory skipped pc commands)
  answered-next [] skipped deeds memory pc answer more e known a = refl
  answered-next (c ∷ later) (suc skipped) deeds memory pc answer more e known a =
      answered-next later skipped deeds memory (pc + 1) answer more (drop-next script pc c later e)
      (AreKnown-right _ (bindings c) (flat_map bindings later) known) a
  answered-next (Set x y k ∷ later) zero deeds memory pc answer more e known a =
      answered-next later 0 (Assigned x y k ∷ deeds) (assigned (variables_of script) memory x y k) (pc + 1) answer more
      (drop-next script pc (Set x y k) later e)
      (AreKnown-right _ (bindings (Set x y k)) (flat_map bindings later) known)
      (Agrees-assigned deeds memory x y k (AreKnown-left _ (bindings (Set x y k)) (flat_map bindings later) known) a)
  answered-next (Unless n ∷ later) zero deeds memory pc answer more e known a =
      subst (λ b. GoesOn (asks_after script (if b then n else 0) deeds later (answer ∷ more)) answer more
      (next_from (variables_of script) memory (if memory.was_none then n else 0) (pc + 1) later)) a.none
      (answered-next later (if memory.was_none then n else 0) deeds memory (pc + 1) answer more (drop-next script pc (Unless n) later e) known a)
  answered-next (Ask operation ∷ later) zero deeds memory pc answer more e known a = record {
    deeds = Answered operation answer ∷ deeds;
    agrees = Agrees-answered deeds memory (pc + 1) operation answer (slots_before-drop pc operation later e)
        (AreKnown-left _ (bindings (Ask operation)) (flat_map bindings later) known) a;
    leads = ap (λ cs. asks_after script 0 (Answered operation answer ∷ deeds) cs more) (sym (drop-next script pc (Ask operation) later e));
  }

  -- at the end of the script nothing more is asked
  pub stays-ended : (position : Position) (answers : List Answer) → next_at script position ≡ None
      → op_of_next (next_at script (fold (after_one script) position answers)) ≡ None
  stays-ended position [] e = ap op_of_next e
  stays-ended position (answer ∷ more) e =
      ap (λ p. op_of_next (next_at script (fold (after_one script) p more))) (ap (answered script answer position) e)
      ∙ stays-ended position more e

  pub reaches-from : (answers : List Answer) (deeds : List Deed) (position : Position) → Agrees deeds position.memory
      → asks_after script 0 deeds (drop position.pc script) answers ≡ op_of_next (next_at script (fold (after_one script) position answers))
  reaches-from [] deeds position a =
      asked-next (drop position.pc script) 0 deeds position.memory position.pc (AreKnown-drop _ position.pc script (AreKnown-script script)) a
  reaches-from (answer ∷ more) deeds position a =
      by (next_at script position) refl (answered-next (drop position.pc script) 0 deeds position.memory position.pc answer more refl
      (AreKnown-drop _ position.pc script (AreKnown-script script)) a)
      (λ deeds' position' a'. reaches-from more deeds' position' a')
    where
      by : (r : Option Next) → next_at script position ≡ r → GoesOn (asks_after script 0 deeds (drop position.pc script) (answer ∷ more)) answer more r
          → ((deeds' : List Deed) (position' : Position) → Agrees deeds' position'.memory
          → asks_after script 0 deeds' (drop position'.pc script) more ≡ op_of_next (next_at script (fold (after_one script) position' more)))
          → asks_after script 0 deeds (drop position.pc script) (answer ∷ more) ≡ op_of_next
          (next_at script (fold (after_one script) (answered script answer position (next_at script position)) more))
      by None e g rest =
          g ∙ sym (stays-ended position more e) ∙ ap (λ r. op_of_next (next_at script (fold (after_one script) (answered script answer position r) more)))
          (sym e)
      by (Some next) e g rest =
          g.leads
          ∙ rest g.deeds (record { pc = next.pc; memory = bound script next.pc answer next.env }) g.agrees
          ∙ ap (λ r. op_of_next (next_at script (fold (after_one script) (answered script answer position r) more))) (sym e)

pub reaches : (script : List Command) (answers : List Answer) → asks script answers ≡ op_of_next (next_at script (position_after script answers))
reaches script answers = reaches-from script answers [] (opening_position script) (Agrees-opening script)

-- where answers lead to a position, the operation next there is the one that is asked
pub asked-there : (script : List Command) (answers : List Answer) (position : Position) → position_after script answers ≡ position
    → op_of_next (next_at script position) ≡ asks script answers
asked-there script answers position e = sym (reaches script answers ∙ ap (λ p. op_of_next (next_at script p)) e)
