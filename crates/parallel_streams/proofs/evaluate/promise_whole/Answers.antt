use Rattle.parallel_streams.proofs.evaluate.promise_whole.Goals as goal

pub returns-clause-left : goal.returns-clause-left
returns-clause-left g c = (g.met.X.Plumbing g.world.𝓛 g.world.𝓜 g.world.𝓡 ((λ s x. x), (λ x. x), (λ x. x), λ x. x)).parts_law c.args._stream.now c.args._progress.now c.requires.holds c.requires.done

pub returns-clause-whole : goal.returns-clause-whole
returns-clause-whole g c = λ workers target planned. (g.met.X.Plumbing g.world.𝓛 g.world.𝓜 g.world.𝓡 ((λ s x. x), (λ x. x), (λ x. x), λ x. x)).whole_law c.args._stream.now workers target c.args._progress.now c.requires.holds planned c.requires.done

pub returns-clause-cut : goal.returns-clause-cut
returns-clause-cut g c = λ workers target planned. (g.met.X.Plumbing g.world.𝓛 g.world.𝓜 g.world.𝓡 ((λ s x. x), (λ x. x), (λ x. x), λ x. x)).cut_law c.args._stream.now workers target c.args._progress.now c.requires.holds planned c.requires.done

pub returns-clause-entries : goal.returns-clause-entries
returns-clause-entries g c = λ workers target entries told. (g.met.X.Plumbing g.world.𝓛 g.world.𝓜 g.world.𝓡 ((λ s x. x), (λ x. x), (λ x. x), λ x. x)).reported_law c.args._stream.now workers target c.args._progress.now entries c.requires.done told

pub returns-clause-read : goal.returns-clause-read
returns-clause-read g c = λ from to reads. (g.met.X.Plumbing g.world.𝓛 g.world.𝓜 g.world.𝓡 ((λ s x. x), (λ x. x), (λ x. x), λ x. x)).read_law c.args._stream.now c.args._progress.now from to c.requires.holds c.requires.done reads
