use Rattle.stealing_pool.specs.Cases.{case_of}
use Rattle.stealing_pool.proofs.job_run.run_job.Given as goal

abbrev pub ghosts-run_case : goal.ghosts-run_case
ghosts-run_case g a = record { case = case_of (g.J.LeafJob.work a.job.now) a.seats }
