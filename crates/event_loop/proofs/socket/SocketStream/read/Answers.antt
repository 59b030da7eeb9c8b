use Rattle.event_loop.proofs.socket.SocketStream.read.Goals as goal
use Rattle.std.proofs.Common.{[], length, ap, refl}
use Rattle.event_loop.proofs.Shorts.{notes_short}
use Rattle.event_loop.proofs.Socketing.{departed_read, received_read, sent_read}
use Rattle.event_loop.specs.Sockets.{traffic_of}

pub returns-clause-moved : goal.returns-clause-moved
returns-clause-moved g c reports = record {
  received = received_read c.args.self.now.socket c.read.new.self c.read.new.self c.read.new.into c.read.result c.read.ensures.next refl c.read.ensures.over
      c.read.ensures.happened c.read_answer-answer.result c.read_answer-answer.ensures.bytes reports;
  sent = sent_read c.args.self.now.socket c.read.new.self c.read.new.self c.read.new.into c.read.result c.read.ensures.next refl c.read.ensures.over
      c.read.ensures.happened reports;
  departed = departed_read c.args.self.now.socket c.read.new.self c.read.new.self c.read.new.into c.read.result c.read.ensures.next refl c.read.ensures.over
      c.read.ensures.happened (g.D.Sectors.moment c.args.device.now) (traffic_of c.args.self.now) _ refl refl reports;
}

pub returns-clause-answered : goal.returns-clause-answered
returns-clause-answered g c = c.note_read.ensures _ _ [] [] _ [] _ _ (ap (λ s. s.connection) c.read.ensures.next)

pub returns-clause-stays : goal.returns-clause-stays
returns-clause-stays g c =
    record {
      short = notes_short c.args.self.now
          (record c.args.self.now { socket = c.read.new.self; came_short = c.comes_short-self.result; counts = c.note_read.new.self })
          (length c.args.into.now) c.read_answer-answer.result c.comes_short-self.ensures;
      sound = λ sound. tt;
      why = λ sound. tt;
    }
