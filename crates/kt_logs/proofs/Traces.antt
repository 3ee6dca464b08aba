-- What waits at a shard was heard in its log, what it keeps was served there, and the last hearing has the cause.
-- Cited by other crates.
use Rattle.std.proofs.Common.{if◌then◌else◌, ◌==◌, ◌≡◌, ℕ, Bool, true, false, ◌&&◌, List, [], ◌∷◌, reverse, Contains}
use Rattle.std.proofs.Common.{Option, Some, None, ◌⊎◌, inl, inr, sym, refl, ap, ◌∙◌, subst, eq-eqb, ne_eqb}
use Rattle.std.specs.List.{find, cons_option}
use Rattle.std.specs.Option.{option_or}
use Rattle.std.proofs.lemmas.Bool.{cases_eq, and_right}
use Rattle.std.proofs.lemmas.List.{reverse-append}
use Rattle.std.proofs.lemmas.List.Folds.{find-append}
use Rattle.kt_tuple.specs.Signature.{kinds_of_op, shard_of}
use Rattle.kt_history.specs.declared.note.What.{What}
use Rattle.kt_history.specs.declared.note.What.TheVariants as whats
use Rattle.kt_history.specs.declared.note.Act.{Act}
use Rattle.kt_history.specs.declared.note.Note.{Note}
use Rattle.kt_history.specs.declared.note.Note.TheVariants as notes
use Rattle.kt_history.specs.Log.{note_at}
use Rattle.kt_history.specs.Closed.{act_of, acts_at}
use Rattle.kt_shard.specs.declared.request.Request.{Request}
use Rattle.kt_shard.specs.declared.request.CachedReply.{CachedReply}
use Rattle.kt_shard.specs.declared.session.Session.{Session}
use Rattle.kt_logs.specs.ShardLog.{MadeShard, request_of, session_after, cause_after, shard_after, shard_of_acts, ShardLog, new_shard}
use Rattle.kt_logs.specs.Cause.{is_hearing, hears_worker, cause_of}
use Rattle.kt_history.proofs.Shared.{Contains-here, Contains-none}
use Rattle.kt_logs.proofs.Bags.{Contains-there, Contains-cases}
use Rattle.kt_logs.proofs.Numbered.{put_row-same, put_row-other}

-- one of these acts heard the request of the worker w, with this cause
pub record WasHeard (acts : List Act) (w : ℕ) (request : Request) (cause : ℕ) : Type 0 where
  pub act : Act
  pub among : Contains acts act
  pub hears : act.what ≡ whats.Heard
  pub worker : act.worker ≡ w
  pub about : request_of act ≡ request
  pub by : act.by ≡ cause

WasHeard-later : (a : Act) (acts : List Act) (w : ℕ) (request : Request) (cause : ℕ) → WasHeard acts w request cause → WasHeard (a ∷ acts) w request cause
WasHeard-later a acts w request cause h =
    record { act = h.act; among = Contains-there a h.act acts h.among; hears = h.hears; worker = h.worker; about = h.about; by = h.by }

-- what waits after an act waited before it, or was heard by it
waits_after : (d : Session) (cause : ℕ) (a : Act) (what : What) (request : Request) → (session_after d a what).waiting ≡ Some request →
    ((what ≡ whats.Heard) × (request_of a ≡ request) × (a.by ≡ cause_after cause a what)) ⊎ ((d.waiting ≡ Some request) × (cause ≡ cause_after cause a what))
waits_after d cause a whats.Heard request e = inl (refl, cc, refl)
waits_after d cause a (whats.Served answer) request e = absurd cc
waits_after d cause a whats.Issue request e = inr (e, refl)
waits_after d cause a _ request e = inr (e, refl)

waits_from : (x : MadeShard) (acts : List Act) (w : ℕ) (request : Request) → ((shard_of_acts x acts).session w).waiting ≡ Some request →
    WasHeard acts w request ((shard_of_acts x acts).cause w) ⊎ (((x.session w).waiting ≡ Some request) × (x.cause w ≡ (shard_of_acts x acts).cause w))
waits_from x [] w request e = inr (e, refl)
waits_from x (a ∷ later) w request e = elim (waits_from (shard_after x a) later w request e) [
  | inl h ↦ inl (WasHeard-later a later w request ((shard_of_acts (shard_after x a) later).cause w) h)
  | inr h ↦ by (cases_eq a.worker w) h.0 h.1
]
  where
    last : ℕ
    last = (shard_of_acts (shard_after x a) later).cause w

    by : (a.worker ≡ w) ⊎ (a.worker ≡ w → ⊥) → ((shard_after x a).session w).waiting ≡ Some request → (shard_after x a).cause w ≡ last →
        WasHeard (a ∷ later) w request last ⊎ (((x.session w).waiting ≡ Some request) × (x.cause w ≡ last))
    by (inr d) waits same =
        inr (
          ap (λ (k : Session). k.waiting) (sym (put_row-other a.worker w (session_after (x.session a.worker) a a.what) x.session d)) ∙ waits,
          sym (put_row-other a.worker w (cause_after (x.cause a.worker) a a.what) x.cause d) ∙ same,
        )
    by (inl own) waits same =
        let session : (shard_after x a).session w ≡ session_after (x.session a.worker) a a.what =
        ap (shard_after x a).session (sym own) ∙ put_row-same a.worker (session_after (x.session a.worker) a a.what) x.session in
        let cause : (shard_after x a).cause w ≡ cause_after (x.cause a.worker) a a.what =
        ap (shard_after x a).cause (sym own) ∙ put_row-same a.worker (cause_after (x.cause a.worker) a a.what) x.cause in
        elim (waits_after (x.session a.worker) (x.cause a.worker) a a.what request (ap (λ (k : Session). k.waiting) (sym session) ∙ waits)) [
          | inl h ↦ inl (record { act = a; among = Contains-here a later; hears = h.0; worker = own; about = h.1; by = h.2 ∙ sym cause ∙ same })
          | inr h ↦ inr (ap (λ k. (x.session k).waiting) (sym own) ∙ h.0, ap x.cause (sym own) ∙ h.1 ∙ sym cause ∙ same)
        ]

-- what waits at a shard was heard in its log, and its last hearing has the cause
pub waits_heard : (acts : List Act) (w : ℕ) (request : Request) → ((shard_of_acts new_shard acts).session w).waiting ≡ Some request →
    WasHeard acts w request ((shard_of_acts new_shard acts).cause w)
waits_heard acts w request e = elim (waits_from new_shard acts w request e) [ inl h ↦ h | inr h ↦ absurd cc ]

-- one of these acts served the request of the worker w so
pub record ServedIn (acts : List Act) (w : ℕ) (cached : CachedReply) : Type 0 where
  pub act : Act
  pub among : Contains acts act
  pub serves : act.what ≡ whats.Served cached.answer
  pub worker : act.worker ≡ w
  pub about : request_of act ≡ cached.request

ServedIn-later : (a : Act) (acts : List Act) (w : ℕ) (cached : CachedReply) → ServedIn acts w cached → ServedIn (a ∷ acts) w cached
ServedIn-later a acts w cached h = record { act = h.act; among = Contains-there a h.act acts h.among; serves = h.serves; worker = h.worker; about = h.about }

keeps_after : (d : Session) (a : Act) (what : What) (cached : CachedReply) → (session_after d a what).cached ≡ Some cached →
    ((what ≡ whats.Served cached.answer) × (request_of a ≡ cached.request)) ⊎ (d.cached ≡ Some cached)
keeps_after d a (whats.Served answer) cached e =
    let same : record { request = request_of a; answer = answer } ≡ cached = cc in
    inl (ap (λ (k : CachedReply). whats.Served k.answer) same, ap (λ (k : CachedReply). k.request) same)
keeps_after d a whats.Issue cached e = inr e
keeps_after d a _ cached e = inr e

keeps_from : (x : MadeShard) (acts : List Act) (w : ℕ) (cached : CachedReply) → ((shard_of_acts x acts).session w).cached ≡ Some cached → ServedIn acts w cached
    ⊎ ((x.session w).cached ≡ Some cached)
keeps_from x [] w cached e = inr e
keeps_from x (a ∷ later) w cached e = elim (keeps_from (shard_after x a) later w cached e) [
  | inl h ↦ inl (ServedIn-later a later w cached h)
  | inr h ↦ by (cases_eq a.worker w) h
]
  where
    by : (a.worker ≡ w) ⊎ (a.worker ≡ w → ⊥) → ((shard_after x a).session w).cached ≡ Some cached
        → ServedIn (a ∷ later) w cached ⊎ ((x.session w).cached ≡ Some cached)
    by (inr d) keeps = inr (ap (λ (k : Session). k.cached) (sym (put_row-other a.worker w (session_after (x.session a.worker) a a.what) x.session d)) ∙ keeps)
    by (inl own) keeps =
        let session : (shard_after x a).session w ≡ session_after (x.session a.worker) a a.what =
        ap (shard_after x a).session (sym own) ∙ put_row-same a.worker (session_after (x.session a.worker) a a.what) x.session in
        elim (keeps_after (x.session a.worker) a a.what cached (ap (λ (k : Session). k.cached) (sym session) ∙ keeps)) [
          | inl h ↦ inl (record { act = a; among = Contains-here a later; serves = h.0; worker = own; about = h.1 })
          | inr h ↦ inr (ap (λ k. (x.session k).cached) (sym own) ∙ h)
        ]

-- what a shard keeps was served in its log
pub keeps_served : (acts : List Act) (w : ℕ) (cached : CachedReply) → ((shard_of_acts new_shard acts).session w).cached ≡ Some cached → ServedIn acts w cached
keeps_served acts w cached e = elim (keeps_from new_shard acts w cached e) [ inl h ↦ h | inr h ↦ absurd cc ]

-- each act of a shard's log is at home there
pub ShardLog-home : (shards s : ℕ) (x : MadeShard) (acts : List Act) (a : Act) → ShardLog shards s x acts → Contains acts a
    → shard_of shards (kinds_of_op a.op) ≡ s
ShardLog-home shards s x [] a h c = absurd (Contains-none a c)
ShardLog-home shards s x (b ∷ later) a h c = elim (Contains-cases b a later c) [
  | inl e ↦ subst (λ (z : Act). shard_of shards (kinds_of_op z.op) ≡ s) e h.0.0
  | inr there ↦ ShardLog-home shards s (shard_after x b) later a h.1 there
]

-- an act at one of these numbers
pub Contains-acts_at : (h : List Note) (numbers : List ℕ) (a : Act) → Contains (acts_at h numbers) a → (n : ℕ) × Contains numbers n
    × (note_at h n ≡ Some (notes.Act a))
Contains-acts_at h [] a c = absurd (Contains-none a c)
Contains-acts_at h (k ∷ later) a c = by (note_at h k) refl c (Contains-acts_at h later a)
  where
    there : ((n : ℕ) × Contains later n × (note_at h n ≡ Some (notes.Act a))) → (n : ℕ) × Contains (k ∷ later) n × (note_at h n ≡ Some (notes.Act a))
    there r = (r.0, Contains-there k r.0 later r.1, r.2)

    by : (o : Option Note) → note_at h k ≡ o → Contains (cons_option (act_of o) (acts_at h later)) a
        → (Contains (acts_at h later) a → (n : ℕ) × Contains later n × (note_at h n ≡ Some (notes.Act a))) →
        (n : ℕ) × Contains (k ∷ later) n × (note_at h n ≡ Some (notes.Act a))
    by None e c rest = there (rest c)
    by (Some (notes.Cut p keep)) e c rest = there (rest c)
    by (Some (notes.Act b)) e c rest = elim (Contains-cases b a (acts_at h later) c) [
      | inl same ↦ (k, Contains-here k later, e ∙ ap (λ z. Some (notes.Act z)) same)
      | inr old ↦ there (rest old)
    ]

-- the cause of the last hearing is that which a search from the end of the log finds
cause_or : ℕ → Option Act → ℕ
cause_or none None = none
cause_or none (Some a) = a.by

cause_step : (cause : ℕ) (a : Act) (what : What) → cause_after cause a what ≡ cause_or cause (if is_hearing what then Some a else None)
unfolding cause_or
cause_step cause a whats.Heard = refl
cause_step cause a whats.Issue = refl
cause_step cause a _ = refl

cause_or-twice : (none : ℕ) (later first : Option Act) → cause_or (cause_or none first) later ≡ cause_or none (option_or later first)
unfolding cause_or
cause_or-twice none None first = refl
cause_or-twice none (Some a) first = refl

cause_from : (x : MadeShard) (acts : List Act) (w : ℕ) → (shard_of_acts x acts).cause w ≡ cause_or (x.cause w) (find (hears_worker w) (reverse acts))
unfolding cause_or
cause_from x [] w = refl
cause_from x (a ∷ later) w =
    cause_from (shard_after x a) later w
    ∙ ap (λ c. cause_or c (find (hears_worker w) (reverse later))) first
    ∙ cause_or-twice (x.cause w) (find (hears_worker w) (reverse later)) (find (hears_worker w) (a ∷ []))
    ∙ ap (cause_or (x.cause w)) (sym (find-append (hears_worker w) (reverse later) (a ∷ [])))
    ∙ ap (λ l. cause_or (x.cause w) (find (hears_worker w) l)) (sym (reverse-append (a ∷ []) later))
  where
    and_true : (b : Bool) → (b && true) ≡ b
    and_true true = refl
    and_true false = refl

    first : (shard_after x a).cause w ≡ cause_or (x.cause w) (find (hears_worker w) (a ∷ []))
    first = elim (cases_eq a.worker w) [
      | inl own ↦
          ap (shard_after x a).cause (sym own) ∙ put_row-same a.worker (cause_after (x.cause a.worker) a a.what) x.cause
          ∙ cause_step (x.cause a.worker) a a.what
          ∙ ap (λ k. cause_or (x.cause k) (if is_hearing a.what then Some a else None)) own
          ∙ ap (λ b. cause_or (x.cause w) (if b then Some a else None))
          (sym (and_true (is_hearing a.what)) ∙ ap (λ b. is_hearing a.what && b) (sym (eq-eqb a.worker w own)))
      | inr d ↦
          put_row-other a.worker w (cause_after (x.cause a.worker) a a.what) x.cause d
          ∙ ap (λ b. cause_or (x.cause w) (if b then Some a else None)) (sym (and_right (is_hearing a.what) (a.worker == w) (ne_eqb a.worker w d)))
    ]

pub cause_found : (acts : List Act) (w : ℕ) → cause_of (find (hears_worker w) (reverse acts)) ≡ (shard_of_acts new_shard acts).cause w
unfolding cause_or
cause_found acts w = same (find (hears_worker w) (reverse acts)) ∙ sym (cause_from new_shard acts w)
  where
    same : (o : Option Act) → cause_of o ≡ cause_or 0 o
    same None = refl
    same (Some a) = refl
