use Rattle.std.proofs.Common.{rules}
use Rattle.server_run.proofs.Registering.{causes_of}
use Rattle.server_run.proofs.running.serve_observed.Goals as goal

pub share_observed-requires : goal.share_observed-requires
share_observed-requires g c κs within =
    let fine = c.requires.1.1.1.1.1.1.1.1.1.1.1.1.1.1.1.1.0 in
    let start = c.requires.1.1.1.1.1.1.1.1.1.1.1.1.1.1.1.1.1.1.0 in
    let workers = c.requires.1.1.1.1.1.1.1.1.1.1.1.1.1.1.1.1.1.1.1 in
    let stands = c.in-Ok.ensures.opens g.terms start in
    let terms = start.terms in (
      search rules,
      (
        search rules,
        (
          search rules,
          (
            search rules,
            (
              search rules,
              (
                search rules,
                (
                  search rules,
                  (
                    search rules,
                    (
                      search rules,
                      (
                        search rules,
                        (
                          search rules,
                          (
                            search rules,
                            (
                              search rules,
                              (
                                search rules,
                                (
                                  search rules,
                                  (
                                    search rules,
                                    (
                                      fine,
                                      (
                                        terms,
                                        (
                                          stands,
                                          (c.in-Ok.ensures.size, workers),
                                        ),
                                      ),
                                    ),
                                  ),
                                ),
                              ),
                            ),
                          ),
                        ),
                      ),
                    ),
                  ),
                ),
              ),
            ),
          ),
        ),
      ),
    )

pub returns-in-Ok-clause-causes : goal.returns-in-Ok-clause-causes
returns-in-Ok-clause-causes g c =
    causes_of _ _ _ c.in-Ok.core c.share_observed.result c.in-Ok.ensures.counts
    c.share_observed.ensures.causes
