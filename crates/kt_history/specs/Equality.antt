-- When two acts or two notes are one, as tests that compute, and that these tests decide equality.
-- Cited by equality.rt.
use Rattle.std.specs.Prelude.{◌≡◌, ℕ, Bool, true, false, refl, ◌&&◌, nat_eq, Option, None, Some}
use Rattle.std.specs.Bool.{Decides}
use Rattle.std.specs.Cmp.{unsigned_Decides}
use Rattle.std.specs.Option.{option_eq}
use Rattle.std.proofs.Common.{ap, ◌∙◌}
use Rattle.std.proofs.lemmas.Bool.{and_parts, and_from}
use Rattle.kt_tuple.specs.declared.node.NodeId.{NodeId}
use Rattle.kt_tuple.specs.declared.op.Op.{Op}
use Rattle.kt_tuple.specs.declared.op.Answer.{Answer}
use Rattle.kt_tuple.specs.Node.{node_eq, node_eq_decides}
use Rattle.kt_tuple.specs.Op.{op_eq, op_eq_decides, answer_eq, answer_eq_decides}
use Rattle.kt_history.specs.declared.note.What.{What}
use Rattle.kt_history.specs.declared.note.What.TheVariants as whats
use Rattle.kt_history.specs.declared.note.Act.{Act}
use Rattle.kt_history.specs.declared.note.Note.{Note}
use Rattle.kt_history.specs.declared.note.Note.TheVariants as notes

abbrev pub what_eq : What → What → Bool
what_eq whats.Issue whats.Issue = true
what_eq whats.Repeat whats.Repeat = true
what_eq whats.Heard whats.Heard = true
what_eq (whats.Served a) (whats.Served b) = answer_eq a b
what_eq (whats.Again a) (whats.Again b) = answer_eq a b
what_eq (whats.Accepted a) (whats.Accepted b) = answer_eq a b
what_eq (whats.Ignored a) (whats.Ignored b) = option_eq answer_eq a b
what_eq _ _ = false

abbrev pub act_eq : Act → Act → Bool
act_eq a b =
    node_eq a.node b.node && (nat_eq a.by b.by
    && (nat_eq a.worker b.worker && (nat_eq a.number b.number && (op_eq a.op b.op && what_eq a.what b.what))))

abbrev pub note_eq : Note → Note → Bool
note_eq (notes.Act a) (notes.Act b) = act_eq a b
note_eq (notes.Cut p keep) (notes.Cut q kept) = node_eq p q && nat_eq keep kept
note_eq _ _ = false

given_eq_decides : (a b : Option Answer) → Decides (option_eq answer_eq a b) (a ≡ b)
given_eq_decides None None = (λ _. refl, λ _. refl)
given_eq_decides (Some a) (Some b) =
    (λ e. ap Some ((answer_eq_decides a b).0 e), λ (e : Some a ≡ Some b). (answer_eq_decides a b).1 cc)
given_eq_decides None (Some b) = (λ e. absurd cc, λ e. absurd cc)
given_eq_decides (Some a) None = (λ e. absurd cc, λ e. absurd cc)

pub what_eq_decides : (a b : What) → Decides (what_eq a b) (a ≡ b)
what_eq_decides whats.Issue whats.Issue = (λ _. refl, λ _. refl)
what_eq_decides whats.Repeat whats.Repeat = (λ _. refl, λ _. refl)
what_eq_decides whats.Heard whats.Heard = (λ _. refl, λ _. refl)
what_eq_decides (whats.Served a) (whats.Served b) = (
  λ e. ap whats.Served ((answer_eq_decides a b).0 e),
  λ (e : whats.Served a ≡ whats.Served b). (answer_eq_decides a b).1 cc,
)
what_eq_decides (whats.Again a) (whats.Again b) = (
  λ e. ap whats.Again ((answer_eq_decides a b).0 e),
  λ (e : whats.Again a ≡ whats.Again b). (answer_eq_decides a b).1 cc,
)
what_eq_decides (whats.Accepted a) (whats.Accepted b) = (
  λ e. ap whats.Accepted ((answer_eq_decides a b).0 e),
  λ (e : whats.Accepted a ≡ whats.Accepted b). (answer_eq_decides a b).1 cc,
)
what_eq_decides (whats.Ignored a) (whats.Ignored b) = (
  λ e. ap whats.Ignored ((given_eq_decides a b).0 e),
  λ (e : whats.Ignored a ≡ whats.Ignored b). (given_eq_decides a b).1 cc,
)
what_eq_decides _ _ = (λ e. absurd cc, λ e. absurd cc)

pub act_eq_decides : (a b : Act) → Decides (act_eq a b) (a ≡ b)
act_eq_decides a b = (
  λ e.
      let first = and_parts _ _ e in
      let second = and_parts _ _ first.1 in
      let third = and_parts _ _ second.1 in
      let fourth = and_parts _ _ third.1 in
      let fifth = and_parts _ _ fourth.1 in
      let of : NodeId → ℕ → ℕ → ℕ → Op → What → Act =
      λ p c w n o x. record { node = p; by = c; worker = w; number = n; op = o; what = x } in
      ap (λ p. of p a.by a.worker a.number a.op a.what) ((node_eq_decides a.node b.node).0 first.0)
      ∙ ap (λ c. of b.node c a.worker a.number a.op a.what) ((unsigned_Decides a.by b.by).0 second.0)
      ∙ ap (λ w. of b.node b.by w a.number a.op a.what) ((unsigned_Decides a.worker b.worker).0 third.0)
      ∙ ap (λ n. of b.node b.by b.worker n a.op a.what) ((unsigned_Decides a.number b.number).0 fourth.0)
      ∙ ap (λ o. of b.node b.by b.worker b.number o a.what) ((op_eq_decides a.op b.op).0 fifth.0)
      ∙ ap (of b.node b.by b.worker b.number b.op) ((what_eq_decides a.what b.what).0 fifth.1),
  λ e.
      and_from _ _ ((node_eq_decides a.node b.node).1 (ap (λ (x : Act). x.node) e))
      (and_from _ _ ((unsigned_Decides a.by b.by).1 (ap (λ (x : Act). x.by) e))
      (and_from _ _ ((unsigned_Decides a.worker b.worker).1 (ap (λ (x : Act). x.worker) e))
      (and_from _ _ ((unsigned_Decides a.number b.number).1 (ap (λ (x : Act). x.number) e))
      (and_from _ _ ((op_eq_decides a.op b.op).1 (ap (λ (x : Act). x.op) e))
      ((what_eq_decides a.what b.what).1 (ap (λ (x : Act). x.what) e)))))),
)

pub note_eq_decides : (a b : Note) → Decides (note_eq a b) (a ≡ b)
note_eq_decides (notes.Act a) (notes.Act b) =
    (λ e. ap notes.Act ((act_eq_decides a b).0 e), λ (e : notes.Act a ≡ notes.Act b). (act_eq_decides a b).1 cc)
note_eq_decides (notes.Cut p keep) (notes.Cut q kept) = (
  λ e.
      let both = and_parts _ _ e in
      ap (λ r. notes.Cut r keep) ((node_eq_decides p q).0 both.0)
      ∙ ap (notes.Cut q) ((unsigned_Decides keep kept).0 both.1),
  λ (e : notes.Cut p keep ≡ notes.Cut q kept). and_from _ _ ((node_eq_decides p q).1 cc)
      ((unsigned_Decides keep kept).1 cc),
)
note_eq_decides _ _ = (λ e. absurd cc, λ e. absurd cc)
