use Rattle.parallel_streams.proofs.stream.Stream.collect_on.Goals as goal

pub returns : goal.returns
returns g c = record { value = c.finish_on.ensures (g.Self.Plumbing.value c.args.self.now) c.in_ok-acc.ensures.made }
