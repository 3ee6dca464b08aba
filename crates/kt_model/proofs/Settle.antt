-- What a store counts for that holds tentative checkpoints from before the world was resumed: each of these is settled,
-- made permanent where its check has Yes and given up else. A write of a step makes of what is settled what it makes of
-- what is stored.
-- Cited by Kept, Lasting, NeverUnfit, Newer, Resuming, Settling; other crates.
use Rattle.std.proofs.Common.{◌≡◌, ℕ, ◌+◌, Bool, true, false, List, [], ◌∷◌, ◌++◌, map, filter, cond, Option, None, Some, inl, inr, refl, sym, ap, ◌∙◌, subst}
use Rattle.std.proofs.Common.{if◌then◌else◌}
use Rattle.std.specs.Prelude.{IfSome}
use Rattle.std.specs.List.{find}
use Rattle.std.specs.Option.{option_map}
use Rattle.std.proofs.lemmas.Bool.{cases_eq}
use Rattle.kt_tuple.specs.declared.node.NodeId.{NodeId}
use Rattle.kt_tuple.specs.Node.{node_eq, is_before}
use Rattle.kt_ckpt.specs.declared.ckpt.Ckpt.{Ckpt}
use Rattle.kt_store.specs.declared.rows.NodeRow.{NodeRow}
use Rattle.kt_store.specs.declared.rows.InstanceRow.{InstanceRow}
use Rattle.kt_store.specs.declared.rows.Purpose.{Purpose}
use Rattle.kt_store.specs.declared.rows.Purpose.TheVariants as purposes
use Rattle.kt_store.specs.declared.rows.Tentative.{Tentative}
use Rattle.kt_store.specs.declared.rows.Verdict.{Verdict}
use Rattle.kt_store.specs.declared.rows.Verdict.TheVariants as verdicts
use Rattle.kt_store.specs.Verdict.{verdict_from}
use Rattle.kt_store.specs.Content.{Content, next_instance, instance_row, row_of, row_or, verdict_of, verdict_on}
use Rattle.kt_store.specs.Changes.{opening, decided, promoted_from, storing, taken, with_row}
use Rattle.kt_store.proofs.Shared.{decided_is_read, others_begun, others_decided}
use Rattle.kt_state.specs.declared.plan.Write.{Write}
use Rattle.kt_state.specs.declared.plan.Write.TheVariants as writes
use Rattle.kt_model.specs.auxiliary.Backed.{IsAllowed}
use Rattle.kt_model.specs.Cut.{permanent_by, permanent_of}
use Rattle.kt_model.specs.Found.{was_found}
use Rattle.kt_model.specs.State.{State}
use Rattle.kt_model.specs.Writing.{content_after}

-- ---- what a row, a store, a state counts for

abbrev pub settled_by : Option Verdict → Tentative → NodeRow → NodeRow
settled_by verdict t row = record row { permanent = permanent_by verdict (Some t) row.permanent; tentative = None }

abbrev pub settled_with : (ℕ → Option Verdict) → Option ℕ → Option Tentative → NodeRow → NodeRow
settled_with of found None row = row
settled_with of found (Some t) row = if was_found found t.instance then settled_by (of t.instance) t row else row

abbrev pub settled_row : Option ℕ → Content → NodeRow → NodeRow
settled_row found c row = settled_with (verdict_of c) found row.tentative row

abbrev pub settled_content : Option ℕ → Content → Content
settled_content found c = record { nodes = map (settled_row found c) c.nodes; board = c.board }

abbrev pub settled : State → State
settled s = record s { content = settled_content s.found s.content }

-- ---- rows

with-node : (of : ℕ → Option Verdict) (f : Option ℕ) (o : Option Tentative) (row : NodeRow) → (settled_with of f o row).node ≡ row.node
with-node of f None row = refl
with-node of f (Some t) row = by (was_found f t.instance) where
  by : (b : Bool) → (if b then settled_by (of t.instance) t row else row).node ≡ row.node
  by true = refl
  by false = refl

keeps-node : (f : Option ℕ) (c : Content) (row : NodeRow) → (settled_row f c row).node ≡ row.node
keeps-node f c row = with-node (verdict_of c) f row.tentative row

find-map : (g : NodeRow → NodeRow) → ((row : NodeRow) → (g row).node ≡ row.node) → (p : NodeId) (rows : List NodeRow)
    → find (λ (row : NodeRow). node_eq row.node p) (map g rows) ≡ option_map g (find (λ (row : NodeRow). node_eq row.node p) rows)
find-map g keeps p [] = refl
find-map g keeps p (x ∷ rows) = by (node_eq x.node p) (ap (λ n. node_eq n p) (keeps x)) (find-map g keeps p rows) where
  by : (b : Bool) → node_eq (g x).node p ≡ b
      → find (λ (row : NodeRow). node_eq row.node p) (map g rows) ≡ option_map g (find (λ (row : NodeRow). node_eq row.node p) rows)
      → cond (node_eq (g x).node p) (Some (g x)) (find (λ (row : NodeRow). node_eq row.node p) (map g rows))
      ≡ option_map g (cond b (Some x) (find (λ (row : NodeRow). node_eq row.node p) rows))
  by true e ih = rw e refl
  by false e ih = rw e ih

pub row-settled : (f : Option ℕ) (c : Content) (p : NodeId) → row_of (settled_content f c) p ≡ settled_row f c (row_of c p)
row-settled f c p =
    ap (row_or p) (find-map (settled_row f c) (keeps-node f c) p c.nodes) ∙ by (find (λ (row : NodeRow). node_eq row.node p) c.nodes)
  where
    by : (o : Option NodeRow) → row_or p (option_map (settled_row f c) o) ≡ settled_row f c (row_or p o)
    by None = refl
    by (Some row) = refl

pub settled-incarnation : (f : Option ℕ) (c : Content) (p : NodeId) → (row_of (settled_content f c) p).incarnation ≡ (row_of c p).incarnation
settled-incarnation f c p = ap (λ (row : NodeRow). row.incarnation) (row-settled f c p) ∙ by (row_of c p).tentative where
  by : (o : Option Tentative) → (settled_with (verdict_of c) f o (row_of c p)).incarnation ≡ (row_of c p).incarnation
  by None = refl
  by (Some t) = pick (was_found f t.instance) where
    pick : (b : Bool) → (if b then settled_by (verdict_of c t.instance) t (row_of c p) else row_of c p).incarnation ≡ (row_of c p).incarnation
    pick true = refl
    pick false = refl

-- what counts as permanent is as before
permanent-with : (of : ℕ → Option Verdict) (f : Option ℕ) (row : NodeRow) (o : Option Tentative) → row.tentative ≡ o
    → (on : Option Tentative → Option Verdict) → ((t : Tentative) → on (Some t) ≡ of t.instance)
    → permanent_by (on (settled_with of f o row).tentative) (settled_with of f o row).tentative (settled_with of f o row).permanent
    ≡ permanent_by (on o) o row.permanent
permanent-with of f row None e on is = ap (λ t. permanent_by (on t) t row.permanent) e
permanent-with of f row (Some t) e on is = by (was_found f t.instance) where
  none : (v : Option Verdict) (x : Option Ckpt) → permanent_by v None x ≡ x
  none None x = refl
  none (Some verdicts.Open) x = refl
  none (Some verdicts.Yes) x = refl
  none (Some verdicts.No) x = refl

  by : (b : Bool) → permanent_by (on (if b then settled_by (of t.instance) t row else row).tentative)
      (if b then settled_by (of t.instance) t row else row).tentative
      (if b then settled_by (of t.instance) t row else row).permanent ≡ permanent_by (on (Some t)) (Some t) row.permanent
  by true = none (on None) (permanent_by (of t.instance) (Some t) row.permanent) ∙ ap (λ v. permanent_by v (Some t) row.permanent) (sym (is t))
  by false = ap (λ o. permanent_by (on o) o row.permanent) e

pub permanent-settled : (f : Option ℕ) (c : Content) (p : NodeId) → permanent_of (settled_content f c) p ≡ permanent_of c p
permanent-settled f c p =
    ap (λ (row : NodeRow). permanent_by (verdict_on c row.tentative) row.tentative row.permanent) (row-settled f c p)
    ∙ permanent-with (verdict_of c) f (row_of c p) (row_of c p).tentative refl (verdict_on c) (λ t. refl)

-- ---- writes of a row

map-filter : (g : NodeRow → NodeRow) → ((row : NodeRow) → (g row).node ≡ row.node) → (P : NodeId → Bool) (rows : List NodeRow)
    → map g (filter (λ (row : NodeRow). P row.node) rows) ≡ filter (λ (row : NodeRow). P row.node) (map g rows)
map-filter g keeps P [] = refl
map-filter g keeps P (x ∷ rows) = by (P x.node) (ap P (keeps x)) (map-filter g keeps P rows) where
  by : (b : Bool) → P (g x).node ≡ b → map g (filter (λ (row : NodeRow). P row.node) rows) ≡ filter (λ (row : NodeRow). P row.node) (map g rows)
      → map g (cond b (x ∷ filter (λ (row : NodeRow). P row.node) rows) (filter (λ (row : NodeRow). P row.node) rows))
      ≡ cond (P (g x).node) (g x ∷ filter (λ (row : NodeRow). P row.node) (map g rows)) (filter (λ (row : NodeRow). P row.node) (map g rows))
  by true e ih = rw e (ap (λ l. g x ∷ l) ih)
  by false e ih = rw e ih

map-append : (g : NodeRow → NodeRow) (xs ys : List NodeRow) → map g (xs ++ ys) ≡ map g xs ++ map g ys
map-append g [] ys = refl
map-append g (x ∷ xs) ys = ap (λ l. g x ∷ l) (map-append g xs ys)

map-with_row : (g : NodeRow → NodeRow) → ((row : NodeRow) → (g row).node ≡ row.node) → (new : NodeRow) (rows : List NodeRow)
    → map g (with_row new rows) ≡ with_row (g new) (map g rows)
map-with_row g keeps new rows =
    map-append g (filter (λ (row : NodeRow). is_before row.node new.node) rows) (new ∷ filter (λ (row : NodeRow). is_before new.node row.node) rows)
    ∙ ap (λ l. l ++ g new ∷ map g (filter (λ (row : NodeRow). is_before new.node row.node) rows)) (map-filter g keeps (λ n. is_before n new.node) rows)
    ∙ ap (λ l. filter (λ (row : NodeRow). is_before row.node new.node) (map g rows) ++ g new ∷ l) (map-filter g keeps (λ n. is_before new.node n) rows)
    ∙ ap (λ n. filter (λ (row : NodeRow). is_before row.node n) (map g rows) ++ g new ∷ filter (λ (row : NodeRow). is_before n row.node) (map g rows))
    (sym (keeps new))

pub storing-settled : (f : Option ℕ) (c : Content) (new : NodeRow)
    → settled_content f (storing new c) ≡ storing (settled_row f c new) (settled_content f c)
storing-settled f c new = ap (λ (l : List NodeRow). record { nodes = l; board = c.board }) (map-with_row (settled_row f c) (keeps-node f c) new c.nodes)

-- ---- writes of the board

map-same : (g h : NodeRow → NodeRow) → ((row : NodeRow) → g row ≡ h row) → (rows : List NodeRow) → map g rows ≡ map h rows
map-same g h same [] = refl
map-same g h same (x ∷ rows) = ap (λ y. y ∷ map g rows) (same x) ∙ ap (λ l. h x ∷ l) (map-same g h same rows)

-- two boards settle the same where the verdicts on what was found count the same
abbrev pub CountsSame : Option Verdict → Option Verdict → Type 0
CountsSame v w = (t : Tentative) (x : Option Ckpt) → permanent_by v (Some t) x ≡ permanent_by w (Some t) x

with-same : (of to : ℕ → Option Verdict) (f : Option ℕ) → ((i : ℕ) → was_found f i ≡ true → CountsSame (of i) (to i)) → (o : Option Tentative) (row : NodeRow)
    → settled_with of f o row ≡ settled_with to f o row
with-same of to f same None row = refl
with-same of to f same (Some t) row = by (was_found f t.instance) (λ e. same t.instance e) where
  by : (b : Bool) → (b ≡ true → CountsSame (of t.instance) (to t.instance))
      → (if b then settled_by (of t.instance) t row else row) ≡ (if b then settled_by (to t.instance) t row else row)
  by true e = ap (λ (x : Option Ckpt). record row { permanent = x; tentative = None }) (e refl t row.permanent)
  by false e = refl

pub board-settled : (f : Option ℕ) (c : Content) (board : List InstanceRow)
    → ((i : ℕ) → was_found f i ≡ true → CountsSame (verdict_of record c { board = board } i) (verdict_of c i))
    → settled_content f record c { board = board } ≡ record (settled_content f c) { board = board }
board-settled f c board same = ap (λ (l : List NodeRow). record { nodes = l; board = board })
    (map-same (settled_row f record c { board = board }) (settled_row f c)
    (λ row. with-same (verdict_of record c { board = board }) (verdict_of c) f same row.tentative row) c.nodes)

counts-refl : (v w : Option Verdict) → v ≡ w → CountsSame v w
counts-refl v w e t x = ap (λ u. permanent_by u (Some t) x) e

true-not : {X : Type 0} (b : Bool) → b ≡ true → b ≡ false → X
true-not true e f = absurd (cc (f))
true-not false e f = absurd (cc (e))

pub opening-settled : (f : Option ℕ) (c : Content) (p : NodeId) (purpose : Purpose) → was_found f (next_instance c) ≡ false
    → settled_content f (opening p purpose c) ≡ opening p purpose (settled_content f c)
opening-settled f c p purpose new = board-settled f c (opening p purpose c).board same where
  same : (i : ℕ) → was_found f i ≡ true → CountsSame (verdict_of (opening p purpose c) i) (verdict_of c i)
  same i e = counts-refl _ _ (ap (option_map (λ (row : InstanceRow). row.verdict)) (others_begun p purpose c i
      (λ is. true-not (was_found f i) e (ap (was_found f) is ∙ new))))

pub decided-settled : (f : Option ℕ) (c : Content) (i : ℕ) (agreed : Bool) → verdict_of c i ≡ Some verdicts.Open → (agreed ≡ true → was_found f i ≡ false)
    → settled_content f (decided i agreed c) ≡ decided i agreed (settled_content f c)
decided-settled f c i agreed undecided new = by (instance_row c i) refl where
  is-instance_row : (o : Option InstanceRow) → option_map (λ (row : InstanceRow). row.verdict) o ≡ Some verdicts.Open → (row : InstanceRow) × (o ≡ Some row)
  is-instance_row None e = absurd (cc (e))
  is-instance_row (Some row) e = (row, refl)

  after : verdict_of (decided i agreed c) i ≡ Some (verdict_from agreed)
  after =
      let row = is-instance_row (instance_row c i) undecided in
      ap (option_map (λ (x : InstanceRow). x.verdict)) (decided_is_read i agreed c)
      ∙ ap (λ (o : Option InstanceRow). option_map (λ (x : InstanceRow). x.verdict)
      (option_map (λ (x : InstanceRow). record x { verdict = verdict_from agreed }) o)) row.1

  own : (b : Bool) → (b ≡ true → was_found f i ≡ false) → was_found f i ≡ true → CountsSame (Some (verdict_from b)) (Some verdicts.Open)
  own true fresh found = true-not (was_found f i) found (fresh refl)
  own false fresh found = λ t x. refl

  same : (j : ℕ) → was_found f j ≡ true → CountsSame (verdict_of (decided i agreed c) j) (verdict_of c j)
  same j found = elim (cases_eq j i) [
    | inl e ↦ λ t x.
        ap (λ k. permanent_by (verdict_of (decided i agreed c) k) (Some t) x) e ∙ ap (λ v. permanent_by v (Some t) x) after
        ∙ own agreed new (sym (ap (was_found f) e) ∙ found) t x ∙ ap (λ v. permanent_by v (Some t) x) (sym undecided)
        ∙ ap (λ k. permanent_by (verdict_of c k) (Some t) x) (sym e)
    | inr d ↦ counts-refl _ _ (ap (option_map (λ (row : InstanceRow). row.verdict)) (others_decided i agreed c j d))
  ]

  by : (o : Option InstanceRow) → instance_row c i ≡ o → settled_content f (decided i agreed c) ≡ decided i agreed (settled_content f c)
  by None e = absurd (cc (sym (ap (option_map (λ (row : InstanceRow). row.verdict)) e) ∙ undecided))
  by (Some row) e =
      let D : Option InstanceRow → Type 0 = λ o. ((j : ℕ) → was_found f j ≡ true
      → CountsSame (verdict_of (Rattle.kt_store.specs.Changes.deciding agreed o c) j) (verdict_of c j))
      → settled_content f (Rattle.kt_store.specs.Changes.deciding agreed o c) ≡ Rattle.kt_store.specs.Changes.deciding agreed o (settled_content f c) in
      subst D (sym e) (λ counts. board-settled f c _ counts) same

-- ---- a write of a plan

-- what a plan writes is of no instance that was found, but that it may get No
abbrev pub WritesNew : Option ℕ → Option Write → Type 0
WritesNew f None = Unit {0}
WritesNew f (Some (writes.BeginCheck checkpoint)) = Unit {0}
WritesNew f (Some (writes.PutTentative instance checkpoint)) = was_found f instance ≡ false
WritesNew f (Some writes.Promote) = Unit {0}
WritesNew f (Some writes.Discard) = Unit {0}
WritesNew f (Some writes.BeginRestart) = Unit {0}
WritesNew f (Some writes.Bump) = Unit {0}
WritesNew f (Some (writes.Decide instance agreed)) = agreed ≡ true → was_found f instance ≡ false

-- a tentative checkpoint of a new instance stays as it is
taken-settled : (f : Option ℕ) (c : Content) (row : NodeRow) (i : ℕ) (checkpoint : Ckpt) → was_found f i ≡ false
    → settled_row f c record row { tentative = taken i checkpoint } ≡ record row { tentative = taken i checkpoint }
taken-settled f c row i checkpoint new = rw new refl

-- so does a row in its next incarnation that is settled already
bump-with : (of : ℕ → Option Verdict) (f : Option ℕ) (o : Option Tentative) (row : NodeRow) → settled_with of f o row ≡ row
    → settled_with of f o record row { incarnation = row.incarnation + 1 } ≡ record row { incarnation = row.incarnation + 1 }
bump-with of f None row e = refl
bump-with of f (Some t) row e = by (was_found f t.instance) e where
  by : (b : Bool) → (if b then settled_by (of t.instance) t row else row) ≡ row
      → (if b then settled_by (of t.instance) t record row { incarnation = row.incarnation + 1 } else record row { incarnation = row.incarnation + 1 })
      ≡ record row { incarnation = row.incarnation + 1 }
  by true e = ap (λ (r : NodeRow). record r { incarnation = row.incarnation + 1 }) e
  by false e = refl

bump : (f : Option ℕ) (c : Content) (row : NodeRow) → settled_row f c row ≡ row
    → settled_row f c record row { incarnation = row.incarnation + 1 } ≡ record row { incarnation = row.incarnation + 1 }
bump f c row e = bump-with (verdict_of c) f row.tentative row e

pub write-settled : (f : Option ℕ) (c : Content) (p : NodeId) (write : Option Write) → settled_row f c (row_of c p) ≡ row_of c p
    → was_found f (next_instance c) ≡ false → IfSome write (IsAllowed c p) → WritesNew f write
    → settled_content f (content_after p write c) ≡ content_after p write (settled_content f c)
write-settled f c p None same new allowed fresh = refl
write-settled f c p (Some (writes.BeginCheck checkpoint)) same new allowed fresh =
    opening-settled f (storing record (row_of c p) { tentative = taken (next_instance c) checkpoint } c) p purposes.Check new
    ∙ ap (opening p purposes.Check) (storing-settled f c record (row_of c p) { tentative = taken (next_instance c) checkpoint })
    ∙ ap (λ (row : NodeRow). opening p purposes.Check (storing row (settled_content f c)))
    (taken-settled f c (row_of c p) (next_instance c) checkpoint new
    ∙ ap (λ (row : NodeRow). record row { tentative = taken (next_instance c) checkpoint }) (sym (row-settled f c p ∙ same)))
write-settled f c p (Some (writes.PutTentative instance checkpoint)) same new allowed fresh =
    storing-settled f c record (row_of c p) { tentative = taken instance checkpoint }
    ∙ ap (λ (row : NodeRow). storing row (settled_content f c))
    (taken-settled f c (row_of c p) instance checkpoint fresh
    ∙ ap (λ (row : NodeRow). record row { tentative = taken instance checkpoint }) (sym (row-settled f c p ∙ same)))
write-settled f c p (Some writes.Promote) same new allowed fresh =
    storing-settled f c record (row_of c p) { permanent = promoted_from (row_of c p).permanent (row_of c p).tentative; tentative = None }
    ∙ ap (λ (row : NodeRow). storing record row { permanent = promoted_from row.permanent row.tentative; tentative = None } (settled_content f c))
    (sym (row-settled f c p ∙ same))
write-settled f c p (Some writes.Discard) same new allowed fresh =
    storing-settled f c record (row_of c p) { tentative = None }
    ∙ ap (λ (row : NodeRow). storing record row { tentative = None } (settled_content f c)) (sym (row-settled f c p ∙ same))
write-settled f c p (Some writes.BeginRestart) same new allowed fresh =
    opening-settled f (storing record (row_of c p) { incarnation = (row_of c p).incarnation + 1 } c) p purposes.Rollback new
    ∙ ap (opening p purposes.Rollback) (storing-settled f c record (row_of c p) { incarnation = (row_of c p).incarnation + 1 }
    ∙ ap (λ (row : NodeRow). storing row (settled_content f c)) (bump f c (row_of c p) same)
    ∙ ap (λ (row : NodeRow). storing record row { incarnation = row.incarnation + 1 } (settled_content f c)) (sym (row-settled f c p ∙ same)))
write-settled f c p (Some writes.Bump) same new allowed fresh =
    storing-settled f c record (row_of c p) { incarnation = (row_of c p).incarnation + 1 }
    ∙ ap (λ (row : NodeRow). storing row (settled_content f c)) (bump f c (row_of c p) same)
    ∙ ap (λ (row : NodeRow). storing record row { incarnation = row.incarnation + 1 } (settled_content f c)) (sym (row-settled f c p ∙ same))
write-settled f c p (Some (writes.Decide instance agreed)) same new allowed fresh = decided-settled f c instance agreed allowed fresh
