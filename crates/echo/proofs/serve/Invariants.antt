use Rattle.echo.proofs.serve.Given as goal

-- the idle time with which the server was opened
abbrev pub ghost-run_pool : goal.ghost-run_pool
ghost-run_pool g a = 60000
