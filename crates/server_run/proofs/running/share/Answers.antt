use Rattle.std.proofs.Common.{rules, refl, [], ◌∷◌, ◌∙◌, ap, arith}
use Rattle.server_run.specs.Journals.{first_entry}
use Rattle.server_run.proofs.Registering.{memory_causes, unshared_leaves}
use Rattle.server_run.proofs.running.share.Goals as goal

pub share_observed-requires : goal.share_observed-requires
share_observed-requires g c κs within =
    let fine = c.requires.1.1.1.1.1.1.1.1.1.1.1.1.1.1.0 in
    let terms = c.requires.1.1.1.1.1.1.1.1.1.1.1.1.1.1.1.0 in
    let stands = c.requires.1.1.1.1.1.1.1.1.1.1.1.1.1.1.1.1.0 in
    let size = c.requires.1.1.1.1.1.1.1.1.1.1.1.1.1.1.1.1.1 in
    let some_workers = fine.workers in (
      search rules,
      (
        search rules,
        (
          search rules,
          (
            search rules,
            (
              search rules,
              (
                search rules,
                (
                  search rules,
                  (
                    search rules,
                    (
                      search rules,
                      (
                        search rules,
                        (
                          search rules,
                          (
                            search rules,
                            (
                              search rules,
                              (
                                search rules,
                                (
                                  search rules,
                                  (
                                    search rules,
                                    (
                                      fine,
                                      (
                                        terms,
                                        (
                                          stands,
                                          (size, omega (arith, some_workers, c.in-Ok.ensures)),
                                        ),
                                      ),
                                    ),
                                  ),
                                ),
                              ),
                            ),
                          ),
                        ),
                      ),
                    ),
                  ),
                ),
              ),
            ),
          ),
        ),
      ),
    )

pub finish-requires : goal.finish-requires
finish-requires g c =
    let stands = c.requires.1.1.1.1.1.1.1.1.1.1.1.1.1.1.1.1.0 in
    (g.terms, 0, first_entry ∷ [], stands, refl)

pub returns-in-Err-clause-run : goal.returns-in-Err-clause-run
returns-in-Err-clause-run g c =
    let stands = c.requires.1.1.1.1.1.1.1.1.1.1.1.1.1.1.1.1.0 in
    unshared_leaves _ g.Q.TimerQueue.timers g.terms c.args.asked c.args.core
    c.finish.result c.finish.ensures.named
    (c.finish.ensures.stands g.terms 0 (first_entry ∷ []) stands refl)

pub returns-in-Err-clause-causes : goal.returns-in-Err-clause-causes
returns-in-Err-clause-causes g c = memory_causes _ _ _ c.finish.result c.finish.ensures.named
