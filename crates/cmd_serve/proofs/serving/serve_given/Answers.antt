use denote.Param.Send.{param_send, param_sync, sendable}
use Rattle.std.proofs.Common.{rules, refl}
use Rattle.cmd_serve.proofs.serving.serve_given.Goals as goal

pub serve_net-requires : goal.serve_net-requires
serve_net-requires g c κs within =
    let send = c.requires.1.1.1.1.1.1.1.1.1 in
    let sync = send.1.1.1.1 in (
      search rules,
      (
        search rules,
        (
          search rules,
          (
            search rules,
            (
              search rules,
              (
                search rules,
                (
                  param_send _ _ send.0,
                  (
                    param_send _ _ send.1.0,
                    (
                      param_send _ _ send.1.1.0,
                      (
                        param_send _ _ send.1.1.1.0,
                        (
                          param_sync _ _ sync.0,
                          (
                            param_sync _ _ sync.1.0,
                            sync.1.1,
                          ),
                        ),
                      ),
                    ),
                  ),
                ),
              ),
            ),
          ),
        ),
      ),
    )

pub serve_behind-requires : goal.serve_behind-requires
serve_behind-requires g c κs within =
    let static = c.requires.1.1.1.1.1.1 in
    let send = static.1.1 in
    let sync = send.1.1.1.1.1 in
    let given = sync.1.1 in (
      search rules,
      (
        search rules,
        (
          search rules,
          (
            search rules,
            (
              search rules,
              (
                search rules,
                (
                  search rules,
                  (
                    static.0,
                    (
                      static.1.0,
                      (
                        search rules,
                        (
                          send.0,
                          (
                            param_send _ _ send.1.0,
                            (
                              param_send _ _ send.1.1.0,
                              (
                                param_send _ _ send.1.1.1.0,
                                (
                                  param_send _ _ send.1.1.1.1.0,
                                  (
                                    search sendable depth 20,
                                    (
                                      sync.0,
                                      (
                                        param_sync _ _ sync.1.0,
                                        (
                                          given.0,
                                          (
                                            given.1.0,
                                            (
                                              given.1.1.0,
                                              (
                                                given.1.1.1.0,
                                                (
                                                  given.1.1.1.1,
                                                  (
                                                    search rules,
                                                    (refl, refl),
                                                  ),
                                                ),
                                              ),
                                            ),
                                          ),
                                        ),
                                      ),
                                    ),
                                  ),
                                ),
                              ),
                            ),
                          ),
                        ),
                      ),
                    ),
                  ),
                ),
              ),
            ),
          ),
        ),
      ),
    )
