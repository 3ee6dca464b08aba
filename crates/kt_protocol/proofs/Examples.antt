-- Two runs, step by step: a rollback that gets Yes and cuts a log, and a check that gets Yes while one of its two nodes
-- is down.
-- Cited by `laws::a_check_can_succeed_while_a_node_is_down`, `laws::a_rollback_can_cut_a_log`.
use Rattle.std.proofs.Common.{◌≡◌, ◌≢◌, ℕ, zero, suc, Bool, true, false, IsTrue, [], Some, None, inl, refl, arith}
use Rattle.kt_protocol.specs.Labels.{no_label, at}
use Rattle.kt_protocol.specs.Logs.{here, Hears, top_sent, top_heard}
use Rattle.kt_protocol.specs.Machine.{Check, Rollback, Open, Yes, Ballot, Up, App, AppMessage, Node, State}
use Rattle.kt_protocol.specs.Steps.{sends, hears, joins, begins, restarts, grants, counts, agrees, decides_rollback, decides_check, learns_yes, fails}
use Rattle.kt_protocol.specs.Steps.{fails_holding, change, pull, push, begin, decide, promote, sending, hearing, joining, loading, sifting, sieve, asking, only}
use Rattle.kt_protocol.specs.Steps.{answering, consenting, counting, rising, falling, cutting, counted, IsAgreed, IsCohort, MustAsk}
use Rattle.kt_protocol.specs.Runs.{AreNeighbours, new, IsBeginning, Run, nothing_done, one_more}
use Rattle.kt_protocol.specs.Laws.{CutsALog, ChecksWhileDown}
use Rattle.kt_protocol.proofs.Labels.{UpTo-refl}
use Rattle.kt_protocol.proofs.Cases.{true-false}

-- the nodes 0 and 1 are neighbours, and no others
abbrev pub pair : ℕ → ℕ → Bool
pair zero (suc zero) = true
pair (suc zero) zero = true
pair p q = false

abbrev new_node : Node
new_node = record { mode = Up; life = 1; count = 0; log = []; perm = []; tent = None; kept = λ x. []; votes = []; joined = []; said = [] }

abbrev start : State
start = record { node = λ x. new_node; link = λ p q. []; board = record { verdict = λ i. Open; begun = λ i. false } }

start_is : IsBeginning pair start
unfolding top_sent top_heard
start_is = record {
  first = 0;
  nodes = λ p. new (record { mode = refl; log = refl; perm = refl; tent = refl; kept = λ x. refl; votes = refl; joined = refl; said = refl });
  empty = λ p q. refl;
  fresh = λ i e. refl;
  agree = λ p q near. UpTo-refl _;
}

abbrev first : AppMessage
first = record { by = 7; label = record { life = 1; count = 1 } }

-- 0 sends, and 1 hears
abbrev sent_one : State
sent_one = change 0 (sending 7 1) (push 0 (only 1 (App first)) start)

abbrev heard_one : State
heard_one = change 1 (hearing 0 first) (pull 0 1 [] sent_one)

run_sent : Run pair start sent_one
run_sent = one_more nothing_done (sends 0 1 7 refl refl)

run_heard : Run pair start heard_one
run_heard = one_more run_sent (hears 1 0 first [] refl refl refl refl)

nobody : {X : Type 0} → false ≡ true → X
nobody e = true-false e refl

near : AreNeighbours pair
near = record { two = two; both = both } where
  two : (p q : ℕ) → IsTrue (pair p q) → p ≢ q
  two zero (suc zero) e = λ f. absurd (omega arith)
  two (suc zero) zero e = λ f. absurd (omega arith)
  two zero zero e = nobody e
  two zero (suc (suc q)) e = nobody e
  two (suc zero) (suc q) e = nobody e
  two (suc (suc p)) q e = nobody e

  both : (p q : ℕ) → IsTrue (pair p q) → IsTrue (pair q p)
  both zero (suc zero) e = refl
  both (suc zero) zero e = refl
  both zero zero e = nobody e
  both zero (suc (suc q)) e = nobody e
  both (suc zero) (suc q) e = nobody e
  both (suc (suc p)) q e = nobody e

-- 0 fails and restarts; 1 joins and asks back; 0, which rolls back too, says yes, and so does 1
abbrev failed : State
failed = change 0 (λ n. falling (cutting n)) heard_one

abbrev restarted : State
restarted = begin (Rollback 0) (change 0 (λ n. joining (Rollback 0) None (pair 0) (loading n))
    (push 0 (asking (Rollback 0) (pair 0) (loading (failed.node 0))) failed))

abbrev joined_one : State
joined_one = change 1 (λ n. joining (Rollback 0) (Some record { node = 0; life = 2 }) (pair 1) (sifting (Rollback 0) 0 no_label n))
    (push 1 (asking (Rollback 0) (pair 1) (restarted.node 1)) (pull 0 1 [] restarted))

abbrev granted : State
granted = change 0 (λ n. answering (Rollback 0) record { node = 1; life = 1 } true (sifting (Rollback 0) 1 no_label n)) (pull 1 0 [] joined_one)

abbrev ballot_1 : Ballot
ballot_1 = record { parent = Some record { node = 0; life = 2 }; awaited = pair 1; refused = false; voted = false }

abbrev ballot_0 : Ballot
ballot_0 = record { parent = None; awaited = pair 0; refused = false; voted = false }

abbrev counted_1 : State
counted_1 = change 1 (counting (Rollback 0) ballot_1 0 true) granted

abbrev agreed_1 : State
agreed_1 = change 1 (λ n. answering (Rollback 0) record { node = 0; life = 2 } true (consenting (Rollback 0) (counted 0 true ballot_1) n)) counted_1

abbrev counted_0 : State
counted_0 = change 0 (counting (Rollback 0) ballot_0 1 true) agreed_1

abbrev decided_0 : State
decided_0 = decide (Rollback 0) Yes (change 0 rising (change 0 (consenting (Rollback 0) (counted 1 true ballot_0)) counted_0))

abbrev learnt : State
learnt = change 1 (λ n. rising (loading n)) decided_0

complete_1 : IsAgreed pair 1 (counted 0 true ballot_1)
complete_1 = record { complete = go; none = refl } where
  go : (q : ℕ) → IsTrue (pair 1 q) → at 0 false (pair 1) q ≡ false
  go zero t = refl
  go (suc q) t = nobody t

complete_0 : IsAgreed pair 0 (counted 1 true ballot_0)
complete_0 = record { complete = go; none = refl } where
  go : (q : ℕ) → IsTrue (pair 0 q) → at 1 false (pair 0) q ≡ false
  go zero t = nobody t
  go (suc zero) t = refl
  go (suc (suc q)) t = nobody t

run_failed : Run pair heard_one failed
run_failed = one_more nothing_done (fails 0 refl)

run_restarted : Run pair heard_one restarted
run_restarted = one_more run_failed (restarts 0 0 (pair 0) refl refl refl refl record { within = λ q e. e; covers = λ q t m. t })

run_joined : Run pair heard_one joined_one
unfolding top_sent top_heard sieve
run_joined = one_more run_restarted (joins 1 0 (Rollback 0) no_label 2 [] (pair 1) refl refl refl refl (omega arith)
    record { within = λ q e. e; covers = λ q t m. t })

run_granted : Run pair heard_one granted
unfolding top_sent top_heard sieve
run_granted = one_more run_joined (grants 0 1 (Rollback 0) no_label 1 [] refl refl refl (inl refl))

run_counted_1 : Run pair heard_one counted_1
run_counted_1 = one_more run_granted (counts 1 0 (Rollback 0) ballot_1 true refl refl refl here)

run_agreed_1 : Run pair heard_one agreed_1
run_agreed_1 = one_more run_counted_1 (agrees 1 (Rollback 0) (counted 0 true ballot_1) record { node = 0; life = 2 } refl refl refl complete_1)

run_counted_0 : Run pair heard_one counted_0
run_counted_0 = one_more run_agreed_1 (counts 0 1 (Rollback 0) ballot_0 true refl refl refl here)

run_decided : Run pair heard_one decided_0
run_decided = one_more run_counted_0 (decides_rollback 0 0 (counted 1 true ballot_0) refl refl refl complete_0)

run_learnt : Run pair heard_one learnt
run_learnt = one_more run_decided (learns_yes 1 0 record (counted 0 true ballot_1) { voted = true } refl refl)

pub cuts : CutsALog pair
cuts = record {
  before = heard_one;
  after = learnt;
  reached = record { near = near; start = start; begins = start_is; run = run_heard };
  run = run_learnt;
  node = 1;
  act = Hears 7 0 record { life = 1; count = 1 };
  remembered = here;
  forgotten = refl;
  up = refl;
  number = 0;
  decided = refl;
}

-- 1 begins a check and asks 0; 0 takes its tentative checkpoint, says yes and fails; 1 decides
abbrev cohort_1 : ℕ → Bool
cohort_1 zero = true
cohort_1 (suc q) = false

abbrev check_1 : Ballot
check_1 = record { parent = None; awaited = cohort_1; refused = false; voted = false }

abbrev check_0 : Ballot
check_0 = record { parent = Some record { node = 1; life = 1 }; awaited = λ q. false; refused = false; voted = false }

abbrev begun_1 : State
begun_1 = begin (Check 0) (change 1 (joining (Check 0) None cohort_1) (push 1 (asking (Check 0) cohort_1 (heard_one.node 1)) heard_one))

abbrev held_0 : State
held_0 = change 0 (λ n. joining (Check 0) (Some record { node = 1; life = 1 }) (λ q. false) (sifting (Check 0) 1 record { life = 1; count = 1 } n))
    (push 0 (asking (Check 0) (λ q. false) (begun_1.node 0)) (pull 1 0 [] begun_1))

abbrev agreed_0 : State
agreed_0 = change 0 (λ n. answering (Check 0) record { node = 1; life = 1 } true (consenting (Check 0) check_0 n)) held_0

abbrev down_0 : State
down_0 = change 0 falling agreed_0

abbrev counted_check : State
counted_check = change 1 (counting (Check 0) check_1 0 true) down_0

abbrev checked : State
checked = promote 0 (decide (Check 0) Yes (change 1 (consenting (Check 0) (counted 0 true check_1)) counted_check))

begun_cohort : IsCohort pair (Check 0) 1 (heard_one.node 1) cohort_1
begun_cohort = record { within = within; covers = covers } where
  within : (q : ℕ) → cohort_1 q ≡ true → IsTrue (pair 1 q)
  within zero e = refl
  within (suc q) e = nobody e

  covers : (q : ℕ) → IsTrue (pair 1 q) → MustAsk (Check 0) (heard_one.node 1) q → cohort_1 q ≡ true
  covers zero t m = refl
  covers (suc q) t m = nobody t

run_begun : Run pair start begun_1
run_begun = one_more run_heard (begins 1 0 cohort_1 refl refl begun_cohort)

held_cohort : IsCohort pair (Check 0) 0 (begun_1.node 0) (λ q. false)
unfolding top_heard
held_cohort = record { within = λ q e. nobody e; covers = λ q t m. absurd (omega (arith, m.counts refl)) }

run_held : Run pair start held_0
unfolding top_sent top_heard
run_held = one_more run_begun (joins 0 1 (Check 0) record { life = 1; count = 1 } 1 [] (λ q. false) refl refl refl refl (omega arith) held_cohort)

run_agreed_0 : Run pair start agreed_0
run_agreed_0 = one_more run_held (agrees 0 (Check 0) check_0 record { node = 1; life = 1 } refl refl refl
    record { complete = λ q t. refl; none = refl })

run_down : Run pair start down_0
run_down = one_more run_agreed_0 (fails_holding 0 0 refl)

run_counted_check : Run pair start counted_check
run_counted_check = one_more run_down (counts 1 0 (Check 0) check_1 true refl refl refl here)

check_agreed : IsAgreed pair 1 (counted 0 true check_1)
check_agreed = record { complete = go; none = refl } where
  go : (q : ℕ) → IsTrue (pair 1 q) → at 0 false cohort_1 q ≡ false
  go zero t = refl
  go (suc q) t = nobody t

run_checked : Run pair start checked
run_checked = one_more run_counted_check (decides_check 1 0 (counted 0 true check_1) refl refl refl check_agreed)

pub checks : ChecksWhileDown pair
checks = record {
  state = checked;
  reached = record { near = near; start = start; begins = start_is; run = run_checked };
  sender = 0;
  receiver = 1;
  by = 7;
  label = record { life = 1; count = 1 };
  down = refl;
  sent = refl;
  heard = refl;
  number = 0;
  decided = refl;
}
