use Rattle.kt_stage.proofs.running.run_threads_returning_left.Given as goal

-- the stage is named by the blank and the world that it is opened with
abbrev pub ghosts-run_on-L-Ledger : goal.ghosts-run_on-L-Ledger
ghosts-run_on-L-Ledger g a = record { name = a.blank.name; parts = a.blank.parts }

abbrev pub ghosts-run_on-L-Naming : goal.ghosts-run_on-L-Naming
ghosts-run_on-L-Naming g a = record { opening = a.world }
