use Rattle.std.proofs.Common.{refl, ap, sym, ◌∙◌, List, ℕ, Ok}
use Rattle.std.proofs.lemmas.Bool.{false≢true}
use Rattle.kt_tuple.specs.declared.value.Value.TheVariants.{Str}
use Rattle.kt_ckpt.proofs.Values.{str_read, str_refused}
use Rattle.kt_ckpt.proofs.value.str_at.Goals as goal

pub returns-in-Some : goal.returns-in-Some
returns-in-Some c =
    str_read c.args.bytes.now c.in_ok-len.len c.in_ok-len.rest.now c.in_ok-characters.characters.now c.in_ok-characters.rest.now c.in_ok-len.ensures.value
    c.in_ok-characters.ensures (c.in-Some.ensures.within.0 refl)
    ∙ ap (λ (cs : List ℕ). Ok (Str cs, c.in_ok-characters.rest.now)) (sym c.in-Some.ensures.value)

pub returns-in-None : goal.returns-in-None
returns-in-None c =
    λ _. str_refused c.args.bytes.now c.in_ok-len.len c.in_ok-len.rest.now c.in_ok-characters.characters.now c.in_ok-characters.rest.now
    c.in_ok-len.ensures.value c.in_ok-characters.ensures c.in_ok-len.ensures.within.1
    (λ text. false≢true (c.in-None.ensures.within.1 text))
