mod WholeLogs
mod Readings
mod Standing
mod JoinedLogs
