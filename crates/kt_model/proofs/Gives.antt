-- What a store that tells what it holds gives of a node fits the node.
-- Cited by Lasting, Undamaged.
use Rattle.std.proofs.Common.{◌≡◌, ℕ, ◌≤◌, ◌==◌, ◌&&◌, Bool, true, false, length, Option, None, Some, refl}
use Rattle.std.proofs.Common.{subst, sym, arith, eq-eqb}
use Rattle.std.specs.Prelude.{IfSome, nat_le}
use Rattle.std.specs.Option.{option_map}
use Rattle.std.proofs.lemmas.Bool.{le-leb}
use Rattle.kt_tuple.specs.declared.node.NodeId.{NodeId}
use Rattle.kt_tuple.specs.Node.{node_eq, node_eq_decides}
use Rattle.kt_history.specs.Log.{log}
use Rattle.kt_history.specs.Closed.{acts_in_log}
use Rattle.kt_ckpt.specs.declared.ckpt.Ckpt.{Ckpt}
use Rattle.kt_ckpt.specs.Header.{header_of}
use Rattle.kt_store.specs.declared.rows.Tentative.{Tentative}
use Rattle.kt_store.specs.Content.{permanent_header, row_of}
use Rattle.kt_state.specs.Node.{Role, Live, Alive}
use Rattle.kt_state.specs.State.{body_at}
use Rattle.kt_state.specs.Stored.{fits, acts_fit, header_fits}
use Rattle.std.specs.List.{list_all}
use Rattle.kt_ckpt.specs.Acts.{is_act_of}
use Rattle.kt_model.proofs.Scene.{role-id}
use Rattle.kt_model.proofs.Shaped.{AreMade, acts-shaped}
use Rattle.kt_model.specs.Cut.{acts_held}
use Rattle.kt_model.specs.auxiliary.Ready.{IsReady}
use Rattle.kt_model.specs.State.{State, role_of, view}
use Rattle.kt_model.specs.StoreReads.{tentative_in}
use Rattle.kt_model.specs.StoreReads as tells
use Rattle.kt_model.proofs.Passed.{alive-is}
use Rattle.kt_model.proofs.Sound.{IsSound}
use Rattle.kt_model.proofs.NoteSound.{log-long}
use Rattle.kt_model.proofs.FitBodies.{Fine, IsNumbered, body_at-fine}
use Rattle.kt_model.proofs.Fit.{IsFitting, IsOfNode, IsWithinLog, EndsIn}

all-four : (a b c d : Bool) → a ≡ true → b ≡ true → c ≡ true → d ≡ true → (a && b && c && d) ≡ true
all-four true true true true e f g h = refl
all-four true true true false e f g h = absurd cc
all-four true true false d e f g h = absurd cc
all-four true false c d e f g h = absurd cc
all-four false b c d e f g h = absurd cc

header-fit : (role : Role) (long : ℕ) (c : Ckpt) → IsOfNode role c → c.line_len ≤ long → header_fits role long (header_of c) ≡ true
header-fit role long c is short =
    all-four (node_eq c.node role.id) (length c.sent == role.peers) (length c.received == role.peers) (nat_le c.line_len long)
    ((node_eq_decides c.node role.id).1 is.own) (eq-eqb (length c.sent) role.peers is.sent) (eq-eqb (length c.received) role.peers is.received)
    (le-leb c.line_len long short)

header-all : (role : Role) (long : ℕ) (o : Option Ckpt) → IfSome o (IsOfNode role) → acts_held o ≤ long → fits role long (option_map header_of o) ≡ true
header-all role long None is short = refl
header-all role long (Some c) is short = header-fit role long c is short

taken-fits : (role : Role) (long : ℕ) (o : Option Tentative) → IfSome o (λ t. IsOfNode role t.checkpoint) → IsWithinLog long o
    → fits role long (option_map tells.header_in o) ≡ true
taken-fits role long None is short = refl
taken-fits role long (Some t) is short = header-fit role long t.checkpoint is short

-- what a store that tells what it holds gives of a node, alive or not
pub record GivesFitting (s : State) (p : NodeId) : Type 0 where
  pub permanent : fits (role_of s.scene p) (view s p).line_len (permanent_header s.content p) ≡ true
  pub body : Fine (body_at (role_of s.scene p) (row_of s.content p).permanent)
  pub shaped : acts_fit (role_of s.scene p) (view s p).acts ≡ true
  pub tentative : (n : Live) → (view s p).node ≡ Alive n → fits (role_of s.scene p) (view s p).line_len (tentative_in s.content p) ≡ true

numbered-of : (role : Role) (o : Option Ckpt) → IfSome o (IsOfNode role) → IfSome o (λ c. IsNumbered c.state)
numbered-of role None is = tt
numbered-of role (Some c) is = is.numbered

pub gives-fitting : (s : State) → IsReady s → IsSound s → IsFitting s → AreMade s.scene s.history → (p : NodeId) → GivesFitting s p
gives-fitting s ready sound is made p =
    let stored = (sound.nodes p).stored in
    let long = log-long s.history p in
    let row = is.rows p in
    record {
      permanent = header-all (role_of s.scene p) (length (log s.history p)) (row_of s.content p).permanent row.permanent
          (let short = stored.permanent.short in omega (arith, long, short));
      body = body_at-fine s.scene ready.scripts p (acts_in_log s.history p) (row_of s.content p).permanent stored.permanent
          (numbered-of (role_of s.scene p) (row_of s.content p).permanent row.permanent);
      shaped = subst (λ q. list_all (is_act_of q) (view s p).acts ≡ true) (sym (role-id s.scene p))
          (acts-shaped s.scene ready.scene s.history sound.well_formed made p);
      tentative = λ n at. taken-fits (role_of s.scene p) (length (log s.history p)) (row_of s.content p).tentative row.tentative
          (subst (EndsIn (length (log s.history p)) (row_of s.content p).tentative) (alive-is s p n at) (is.ends p));
    }
