-- How a run of the program ends, told from how its command ends.
-- Cited by `program::run_arguments`, `program::run_program`, `program::run_texts`.
use Rattle.std.proofs.Common.{◌≡◌, ℕ, List, [], Option, Result, inl, inr, subst}
use Rattle.std.specs.Prelude.{◌≢◌}
use Rattle.clap.specs.Words.{kind_of, HasKind, Kinds, Text}
use Rattle.clap.specs.declared.error.Error.{Error}
use Rattle.clap.specs.declared.error.kind.ErrorKind.TheVariants as kind
use Rattle.kt_scene.specs.Outside.{Reader, Writer}
use Rattle.kt_store.specs.Content.{Content}
use Rattle.kt_store.specs.declared.store.CkptStore.{Ghosts}
use Rattle.linda_kt.specs.Status.{IsRunStatus}
use Rattle.linda_kt.specs.Words.{words_fault}

only_memory : (e : Error) → HasKind [] e → kind_of e ≡ kind.OutOfMemory
only_memory e (inl memory) = memory
only_memory e (inr among) = absurd among

-- words without a fault are refused for want of memory alone
pub without_fault : (kinds : Kinds) (e : Error) → kinds ≡ [] → HasKind kinds e → kind_of e ≡ kind.OutOfMemory
without_fault kinds e none has = let P : Kinds → Type 0 = λ ks. HasKind ks e in only_memory e (subst P none has)

not_help : (e : Error) → kind_of e ≡ kind.OutOfMemory → kind_of e ≡ kind.DisplayHelp → ⊥
not_help e memory help = cc

not_version : (e : Error) → kind_of e ≡ kind.OutOfMemory → kind_of e ≡ kind.DisplayVersion → ⊥
not_version e memory version = cc

-- an error for want of memory asks for no text about the program
pub asks_for_no_text : (e : Error) → kind_of e ≡ kind.OutOfMemory → (kind_of e ≢ kind.DisplayHelp) × (kind_of e ≢ kind.DisplayVersion)
asks_for_no_text e memory = (not_help e memory, not_version e memory)

module _ {S C F G X Y : Type 0} (kind : Ghosts S) (gives : Text → Result S F → Type 0)
    (copies : Text → Result S G → Type 0) (connects : Text → Result C F → Type 0)
    (carries : C → Content → Result (Unit {0}) F → Type 0) (remaining : X → Option (List ℕ)) (texts : Text → Result X Y → Type 0)
    (before after : Reader) (old new : Writer) (n : ℕ) where
  -- what is told of words is told of the same words
  pub told_of_same : (u v : List Text) → u ≡ v
      → (words_fault u ≡ [] → IsRunStatus kind gives copies connects carries remaining texts u before after old new n)
      → words_fault v ≡ [] → IsRunStatus kind gives copies connects carries remaining texts v before after old new n
  told_of_same u v same told =
      let P : List Text → Type 0 = λ ws. words_fault ws ≡ [] → IsRunStatus kind gives copies connects carries remaining texts ws before after old new n in
      subst P same told
