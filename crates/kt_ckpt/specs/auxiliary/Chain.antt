-- Blocks of acts, each of which leads to the one before it.
-- Cited by Chains, chain.rt.
use Rattle.std.specs.Prelude.{◌≡◌, ℕ, ◌<◌, ◌≤◌, List, [], ◌++◌, length}
use Rattle.kt_ckpt.specs.declared.acts.LogAct.{LogAct}
use Rattle.kt_ckpt.specs.declared.chain.Link.{Link}
use Rattle.kt_ckpt.specs.declared.chain.Link.TheVariants.{End, Last}

-- the acts of the block and of those before it, those that were given up in the block itself among them
abbrev pub in_blocks : Link → List LogAct
in_blocks End = []
in_blocks (Last block) = block.value.older ++ block.value.acts.items

-- so many of them are shown: all of the older ones, and of the block's own at least one
abbrev pub IsChain : ℕ → Link → Type 0
IsChain len End = len ≡ 0
IsChain len (Last block) = (length block.value.older < len) × (len ≤ length (in_blocks (Last block)))
