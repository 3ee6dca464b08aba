-- Which acts a worker may make, told from where it stands, and the acts of a log one by one.
-- Cited by Remakes, `Remade::makes_all`, `worker::remake_worker`.
use Rattle.std.proofs.Common.{◌≡◌, ◌⊎◌, ℕ, zero, suc, ◌+◌, ◌<◌, ◌≤◌, Bool, true, false, List, [], ◌∷◌, ◌++◌, length, take, drop, get_or, take-append-drop}
use Rattle.std.proofs.Common.{Option, None, Some, inl, inr, refl, sym, ap, ◌∙◌, subst, arith}
use Rattle.std.specs.Prelude.{IsTrue, IfSome}
use Rattle.std.specs.List.{cons_option}
use Rattle.std.proofs.lemmas.List.{append-nil, append_assoc, take_more}
use Rattle.kt_tuple.specs.declared.op.Op.{Op}
use Rattle.kt_tuple.specs.declared.op.Answer.{Answer}
use Rattle.kt_history.specs.declared.note.Act.{Act}
use Rattle.kt_history.specs.declared.note.Note.{Note}
use Rattle.kt_history.specs.declared.note.What.{What}
use Rattle.kt_history.specs.declared.note.What.TheVariants as whats
use Rattle.kt_history.specs.Log.{note_at}
use Rattle.kt_history.specs.Closed.{act_of, acts_at}
use Rattle.kt_history.proofs.Fronts.{acts_at-append}
use Rattle.kt_script.specs.declared.command.Command.{Command}
use Rattle.kt_script.specs.declared.next.Next.{Next}
use Rattle.kt_script.specs.Next.{next_at, op_of_next}
use Rattle.kt_worker.specs.WorkerModel.{WorkerModel, asking, issued, next_of, next_request, numbered, unless_asked}
use Rattle.kt_worker.specs.After.{IsAfter, last_number}
use Rattle.kt_logs.specs.WorkerLog.{MadeWorker, Awaits, WorkerMakes, WorkerMay, WorkerLog, worker_after, worker_after_what, worker_of_acts}
use Rattle.kt_model.specs.Like.{IsWorkerLike}

-- ---- what is asked

-- a worker that is like its acts awaits just what they say
pub awaits-made : (script : List Command) (made : MadeWorker) (x : WorkerModel) (number : ℕ) (op : Op) → IsWorkerLike script made x → x.number ≡ number
    → x.asked ≡ Some op → Awaits number op made
awaits-made script made x number op like is asked =
    let mine : made.asked ≡ Some op = sym like.asked ∙ asked in
    let last : x.number ≡ suc (length made.answers) = like.after.number ∙ ap (λ o. last_number o (length made.answers)) asked in
    (sym is ∙ last, mine)

pub awaits-stands : (script : List Command) (made : MadeWorker) (x : WorkerModel) (number : ℕ) (op : Op) → IsWorkerLike script made x → Awaits number op made
    → (x.number ≡ number) × (x.asked ≡ Some op)
awaits-stands script made x number op like awaits =
    let asked : x.asked ≡ Some op = like.asked ∙ awaits.1 in
    let last : x.number ≡ suc (length made.answers) = like.after.number ∙ ap (λ o. last_number o (length made.answers)) asked in
    (last ∙ sym awaits.0, asked)

-- a worker with a next request waits for no answer
pub asks-none : (script : List Command) (x : WorkerModel) (r : ℕ × Op) → next_request script x ≡ Some r → x.asked ≡ None
asks-none script x r e = by x.asked refl
  where
    by : (o : Option Op) → x.asked ≡ o → x.asked ≡ None
    by None same = same
    by (Some op) same =
        let none : next_request script x ≡ None =
        ap (λ o. numbered (x.number + 1) (op_of_next (unless_asked o (next_at script x.position)))) same in
        let apart : None ≡ Some r = sym none ∙ e in
        absurd (cc (apart))

-- ---- the next request

-- what is asked next, by the script and by what was issued
pub issue-may : (asked : List Answer → Option Op) (made : MadeWorker) (a : Act) (number : ℕ) (op : Op) → made.asked ≡ None
    → numbered (suc (length made.answers)) (asked made.answers) ≡ Some (number, op) → number ≡ a.number → op ≡ a.op → WorkerMay asked made a whats.Issue
issue-may asked made a number op none is same_number same_op = by (asked made.answers) refl is
  where
    by : (o : Option Op) → asked made.answers ≡ o → numbered (suc (length made.answers)) o ≡ Some (number, op) → WorkerMay asked made a whats.Issue
    by None e nothing = absurd (cc (nothing))
    by (Some next) e found =
        let pairs : (suc (length made.answers), next) ≡ (number, op) = cc (found) in
        let n : suc (length made.answers) ≡ number = ap (λ (r : ℕ × Op). r.0) pairs in
        let o : next ≡ op = ap (λ (r : ℕ × Op). r.1) pairs in
        (none, sym same_number ∙ sym n, e ∙ ap (λ x. Some x) (o ∙ same_op))

pub issue-is : (asked : List Answer → Option Op) (made : MadeWorker) (a : Act) (number : ℕ) (op : Op)
    → numbered (suc (length made.answers)) (asked made.answers) ≡ Some (number, op) → WorkerMay asked made a whats.Issue → (number ≡ a.number) × (op ≡ a.op)
issue-is asked made a number op is may =
    let both : Some (suc (length made.answers), a.op) ≡ Some (number, op) = ap (numbered (suc (length made.answers))) (sym may.2) ∙ is in
    let pairs : (suc (length made.answers), a.op) ≡ (number, op) = cc (both) in
    let n : suc (length made.answers) ≡ number = ap (λ (r : ℕ × Op). r.0) pairs in
    let o : a.op ≡ op = ap (λ (r : ℕ × Op). r.1) pairs in
    (sym n ∙ sym may.1, sym o)

-- a worker that has issued the act's request is like what its acts make of it then
pub issued-like : (script : List Command) (made : MadeWorker) (x new : WorkerModel) (a : Act) (number : ℕ) (op : Op) → next_request script x ≡ Some (number, op)
    → op ≡ a.op → a.what ≡ whats.Issue → new ≡ issued script x → IsAfter script made.answers new → IsWorkerLike script (worker_after made a) new
issued-like script made x new a number op next same what now is_after =
    subst (λ w. IsWorkerLike script (worker_after_what made a w) new) (sym what)
    (record { asked = ap (λ (w : WorkerModel). w.asked) now ∙ by (next_of script x) next ∙ ap (λ o. Some o) same; after = is_after })
  where
    by : (o : Option Next) → numbered (x.number + 1) (op_of_next o) ≡ Some (number, op) → (asking x o).asked ≡ Some op
    by None none = absurd (cc (none))
    by (Some n) some =
        let pairs : (x.number + 1, n.op) ≡ (number, op) = cc (some) in
        ap (λ o. Some o) (ap (λ (r : ℕ × Op). r.1) pairs)

-- ---- a log, act by act

-- the act behind so many of a log
pub acts-more : (h : List Note) (xs : List ℕ) (i : ℕ) (a : Act) → i < length xs → act_of (note_at h (get_or xs i 0)) ≡ Some a
    → acts_at h (take (i + 1) xs) ≡ acts_at h (take i xs) ++ a ∷ []
acts-more h xs i a lt is =
    ap (acts_at h) (take_more xs i 0 lt) ∙ acts_at-append h (take i xs) (get_or xs i 0 ∷ [])
    ∙ ap (λ o. acts_at h (take i xs) ++ cons_option o []) is

pub acts-none : (h : List Note) (xs : List ℕ) (i : ℕ) → i < length xs → act_of (note_at h (get_or xs i 0)) ≡ None
    → acts_at h (take (i + 1) xs) ≡ acts_at h (take i xs)
acts-none h xs i lt is =
    ap (acts_at h) (take_more xs i 0 lt) ∙ acts_at-append h (take i xs) (get_or xs i 0 ∷ [])
    ∙ ap (λ o. acts_at h (take i xs) ++ cons_option o []) is ∙ append-nil (acts_at h (take i xs))

-- a worker that may make a whole log may make each act of it
log-makes : (asked : List Answer → Option Op) (w : ℕ) (x : MadeWorker) (xs : List Act) (a : Act) (ys : List Act) → WorkerLog asked w x (xs ++ a ∷ ys)
    → WorkerMakes asked w (worker_of_acts x xs) a
log-makes asked w x [] a ys legal = legal.0
log-makes asked w x (b ∷ xs) a ys legal = log-makes asked w (worker_after x b) xs a ys legal.1

pub log-act : (asked : List Answer → Option Op) (w : ℕ) (x : MadeWorker) (h : List Note) (xs : List ℕ) (i : ℕ) (a : Act) → i < length xs
    → act_of (note_at h (get_or xs i 0)) ≡ Some a → WorkerLog asked w x (acts_at h xs) → WorkerMakes asked w (worker_of_acts x (acts_at h (take i xs))) a
log-act asked w x h xs i a lt is legal =
    let split : acts_at h xs ≡ acts_at h (take i xs) ++ a ∷ acts_at h (drop (i + 1) xs) =
    ap (acts_at h) (sym (take-append-drop (i + 1) xs)) ∙ acts_at-append h (take (i + 1) xs) (drop (i + 1) xs)
    ∙ ap (λ l. l ++ acts_at h (drop (i + 1) xs)) (acts-more h xs i a lt is)
    ∙ append_assoc (acts_at h (take i xs)) (a ∷ []) (acts_at h (drop (i + 1) xs)) in
    log-makes asked w x (acts_at h (take i xs)) a (acts_at h (drop (i + 1) xs)) (subst (WorkerLog asked w x) split legal)

pub WorkerLog-more : (asked : List Answer → Option Op) (w : ℕ) (x : MadeWorker) (xs : List Act) (a : Act) → WorkerLog asked w x xs
    → WorkerMakes asked w (worker_of_acts x xs) a → WorkerLog asked w x (xs ++ a ∷ [])
WorkerLog-more asked w x [] a legal makes = (makes, tt)
WorkerLog-more asked w x (b ∷ xs) a legal makes = (legal.0, WorkerLog-more asked w (worker_after x b) xs a legal.1 makes)
