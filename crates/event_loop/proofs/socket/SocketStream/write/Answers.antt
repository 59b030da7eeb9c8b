use Rattle.event_loop.proofs.socket.SocketStream.write.Goals as goal
use Rattle.std.proofs.Common.{[], ap, refl}
use Rattle.event_loop.proofs.Socketing.{departed_written, received_written, sent_written}
use Rattle.event_loop.specs.Sockets.{traffic_of}

pub returns-clause-moved : goal.returns-clause-moved
returns-clause-moved g c reports = record {
  received = received_written c.args.self.now.socket c.write.new.self c.write.new.self c.args.from.now c.write.result c.write.ensures.next refl
      c.write.ensures.over (g.D.Sectors.moment c.args.device.now) c.write.ensures.happened reports;
  sent = sent_written c.args.self.now.socket c.write.new.self c.write.new.self c.args.from.now c.write.result c.write.ensures.next refl c.write.ensures.over
      (g.D.Sectors.moment c.args.device.now) c.write.ensures.happened c.write_answer-answer.result c.write_answer-answer.ensures.bytes reports;
  departed = departed_written c.args.self.now.socket c.write.new.self c.write.new.self c.args.from.now c.write.result c.write.ensures.next refl
      c.write.ensures.over (g.D.Sectors.moment c.args.device.now) c.write.ensures.happened (traffic_of c.args.self.now) _ refl refl refl reports;
}

pub returns-clause-answered : goal.returns-clause-answered
returns-clause-answered g c = c.note_write.ensures _ _ [] [] _ [] _ _ (ap (λ s. s.connection) c.write.ensures.next)
